use Rattle.moo_load.{proofs.Words.{◌≡◌, refl, sym, ap, subst, ◌∙◌, none-some, same_Some, from_err, ObjNo, PropId, SlotRow, Held, Maps, with_slot, Name, Property, Slot, LastSlot, slot_values, AreRead, dumped_slot, IsNextProperty}, proofs.One.Values.{one_slot}, proofs.Within.{slot_read}}
use Rattle.moo_load.proofs.taking.take_slot.Goals as goal

as_slot : ObjNo → SlotRow → Slot
as_slot definer row = record { definer = definer; owner = row.owner; bits = row.bits; state = row.state }

-- the values of a slot's line tell its object, its property and its row
told : (x definer : ObjNo) (name : Name) (row : SlotRow) (y : ObjNo) (p : Property) (k : Slot) → slot_values x definer name row ≡ slot_values y p.0 p.1 (dumped_slot k) → (x ≡ y) × ((definer, name) ≡ p) × (row ≡ dumped_slot k)
unfolding as_slot
told x definer name row y p k e =
    let o = one_slot x y (definer, name) p (as_slot definer row) (as_slot p.0 (dumped_slot k)) refl refl e in
    (o.0, o.1, ap dumped_slot o.2)

moved : (m : Maps) (last : LastSlot) (x y : ObjNo) (p q : Property) (id : PropId) → x ≡ y → p ≡ q → IsNextProperty m last y q id → IsNextProperty m last x p id
moved m last x y p q id e f next = subst (λ (z : ObjNo). IsNextProperty m last z p id) (sym e) (subst (λ (r : Property). IsNextProperty m last y r id) (sym f) next)

pub returns-clause-read : goal.returns-clause-read
returns-clause-read c = subst (λ (h : Held). AreRead h.maps) (sym c.in_ok-put_slot.ensures.ok) (slot_read c.args.rows.now.maps c.requires (c.in_ok-slot.slot.object, c.in-Some.id) c.in_ok-slot.slot.row c.in_ok-slot.ensures.fits)

pub returns-clause-put : goal.returns-clause-put
returns-clause-put c x p k id is next =
    let slot = c.in_ok-slot.slot in
    let o = told slot.object slot.definer slot.name slot.row x p k (sym c.in_ok-slot.ensures.shown ∙ is) in
    let mine : c.in-Some.id ≡ id = same_Some c.in-Some.id id (c.in-Some.ensures id (moved c.args.rows.now.maps c.args.last slot.object x (slot.definer, slot.name) p id o.0 o.1 next)) in
    ((λ i. record { object = o.0 i; definer = (o.1 i).0; id = mine i }), c.in_ok-put_slot.ensures.ok ∙ (λ i. with_slot c.args.rows.now (o.0 i, mine i) (o.2 i)))

pub returns-in_err-slot-clause-err : goal.returns-in_err-slot-clause-err
returns-in_err-slot-clause-err c = from_err c.from_residual.result c.from_residual.ensures.1 (λ fault own unreadable x q k id fits next. c.in_err-slot.ensures.err (λ none. unreadable (own ∙ none)) x q.0 q.1 (dumped_slot k) fits)

pub returns-in_default-clause-err : goal.returns-in_default-clause-err
returns-in_default-clause-err c unreadable x p k id fits next is =
    let slot = c.in_ok-slot.slot in
    let o = told slot.object slot.definer slot.name slot.row x p k (sym c.in_ok-slot.ensures.shown ∙ is) in
    none-some id (c.in_default.ensures id (moved c.args.rows.now.maps c.args.last slot.object x (slot.definer, slot.name) p id o.0 o.1 next))
