-- The slots of the world that rows show, one by one.
use Rattle.moo_world.{proofs.Words.{arith, ◌≡◌, ℕ, ◌<◌, Bool, true, false, Option, None, Some, refl, sym, ap, ◌∙◌, slice_get, if◌then◌else◌, option_map, option_and_then, filter_map, none-some, same_Some, ObjNo, ObjRow, PropRow, SlotRow, Name, same_text, folded, same_text-Decides, Slot, slot_of, LookUps, numbers_below, slot_on, slot_seen, object_shown, world_shown}, proofs.Shown.Numbered.{first_from, none_from}}

-- the property under a number, of this folded name, with its slot on y
pub record SlotHere (m : LookUps) (y : ObjNo) (n : Name) (id : ℕ) : Type 0 where
  pub prop : PropRow
  pub row : SlotRow
  pub there : m.prop id ≡ Some prop
  pub held : m.slot y id ≡ Some row
  pub name : folded prop.name ≡ n

module _ (m : LookUps) (y : ObjNo) (n : Name) where
  pub slots_shown : (row : ObjRow) → m.object y ≡ Some row → slot_of (world_shown m) y n ≡ slice_get (filter_map (slot_on m y n) (numbers_below m.head.next_prop)) 0
  unfolding world_shown
  slots_shown row e = ap (λ o. option_and_then (λ r. r.slot n) (option_map (object_shown m y) o)) e

  pub slot_on-here : (id : ℕ) (h : SlotHere m y n id) → slot_on m y n id ≡ Some (slot_seen h.prop.definer h.row)
  slot_on-here id h = grind (arith, same_text, same_text-Decides)

  pub here-slot_on : (id : ℕ) (s : Slot) → slot_on m y n id ≡ Some s → (h : SlotHere m y n id) × (s ≡ slot_seen h.prop.definer h.row)
  here-slot_on id s e = by (m.prop id) refl e
    where
      third : (p : PropRow) → m.prop id ≡ Some p → folded p.name ≡ n → (o : Option SlotRow) → m.slot y id ≡ o → option_map (slot_seen p.definer) o ≡ Some s → (h : SlotHere m y n id) × (s ≡ slot_seen h.prop.definer h.row)
      third p g k None f q = absurd (none-some s q)
      third p g k (Some r) f q = (record { prop = p; row = r; there = g; held = f; name = k }, sym (same_Some (slot_seen p.definer r) s q))

      second : (p : PropRow) → m.prop id ≡ Some p → (b : Bool) → same_text (folded p.name) n ≡ b → (if b then option_map (slot_seen p.definer) (m.slot y id) else None) ≡ Some s → (h : SlotHere m y n id) × (s ≡ slot_seen h.prop.definer h.row)
      second p g true k q = third p g ((same_text-Decides (folded p.name) n).0 k) (m.slot y id) refl q
      second p g false k q = absurd (none-some s q)

      by : (o : Option PropRow) → m.prop id ≡ o → option_and_then (λ (p : PropRow). if same_text (folded p.name) n then option_map (slot_seen p.definer) (m.slot y id) else None) o ≡ Some s → (h : SlotHere m y n id) × (s ≡ slot_seen h.prop.definer h.row)
      by None g q = absurd (none-some s q)
      by (Some p) g q = second p g (same_text (folded p.name) n) refl q

  -- a slot of the world is that of a row
  pub slot_from : (row : ObjRow) → m.object y ≡ Some row → (s : Slot) → slot_of (world_shown m) y n ≡ Some s → (id : ℕ) × (h : SlotHere m y n id) × (s ≡ slot_seen h.prop.definer h.row)
  slot_from row o s e =
      let k = first_from (slot_on m y n) m.head.next_prop s (sym (slots_shown row o) ∙ e) in
      let h = here-slot_on k.0 s k.2 in
      (k.0, h.0, h.1)

  -- where the world has no slot no row has one
  pub no_slot_from : (row : ObjRow) → m.object y ≡ Some row → slot_of (world_shown m) y n ≡ None → (id : ℕ) → id < m.head.next_prop → SlotHere m y n id → ⊥
  no_slot_from row o e id l h = none-some (slot_seen h.prop.definer h.row) (sym (none_from (slot_on m y n) m.head.next_prop id (sym (slots_shown row o) ∙ e) l) ∙ slot_on-here id h)
