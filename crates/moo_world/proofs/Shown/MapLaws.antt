-- What a put or a removal in the maps does to the world that they show.
use Rattle.moo_world.proofs.Words.{arith, ◌≡◌, ℕ, Bool, true, cond, sym, ◌∙◌, ap, subst, Some, Ordering, eqb, ◌&&◌, Decides, IsTotalOrder, Equal-is, tied_itself, eq_by_cmp, is_eq, get, insert, get-insert, CmpEqualImpliesEq, and_parts, eqb-true, eq-eqb, ObjNo, ObjRow, SlotRow, PropId, Maps, object_cmp, slot_cmp, object_exact, slot_exact, object_total, slot_total, same_object, same_object-Decides, look_ups, prop_id, with_object_row, with_slot_row}

-- two tests of one thing answer alike
pub decided_alike : (a b : Bool) (P : Type 0) → Decides a P → Decides b P → a ≡ b
decided_alike a b P d e = grind arith

pub key-Decides : {K : Type 0} (cmp : K → K → Ordering) → IsTotalOrder cmp → CmpEqualImpliesEq cmp → (a b : K) → Decides (eq_by_cmp cmp a b) (a ≡ b)
key-Decides cmp total exact a b = (λ e. exact a b ((Equal-is (cmp a b)).0 e), λ e. subst (λ c. is_eq (cmp a c) ≡ true) e (ap is_eq (tied_itself total a)))

pub object_key : (x y : ObjNo) → eq_by_cmp object_cmp y x ≡ same_object x y
object_key x y = decided_alike _ _ (x ≡ y) (let d = key-Decides object_cmp object_total object_exact y x in (λ e. sym (d.0 e), λ e. d.1 (sym e))) (same_object-Decides x y)

slot_key-Decides : (x y : ObjNo) (id j : ℕ) → Decides (same_object x y && eqb id j) (◌≡◌ {A = ObjNo × PropId} (y, prop_id j) (x, prop_id id))
slot_key-Decides x y id j = grind (arith, and_parts, same_object-Decides, eqb-true, eq-eqb)

pub slot_key : (x y : ObjNo) (id j : ℕ) → eq_by_cmp slot_cmp (y, prop_id j) (x, prop_id id) ≡ (same_object x y && eqb id j)
slot_key x y id j = decided_alike _ _ (◌≡◌ {A = ObjNo × PropId} (y, prop_id j) (x, prop_id id)) (key-Decides slot_cmp slot_total slot_exact (y, prop_id j) (x, prop_id id)) (slot_key-Decides x y id j)

-- what the look-ups answer after a put or a removal
pub look_ups-put_object : (t : Maps) (x : ObjNo) (row : ObjRow) → look_ups (record t { objects = insert t.objects x row }) ≡ with_object_row (look_ups t) x row
look_ups-put_object t x row = λ i. record (look_ups t) { object = λ y. (get-insert object_total t.objects x row y ∙ ap (λ b. cond b (Some row) (get t.objects y)) (object_key x y)) i }

pub look_ups-put_slot : (t : Maps) (x : ObjNo) (id : PropId) (row : SlotRow) → look_ups (record t { slots = insert t.slots (x, id) row }) ≡ with_slot_row (look_ups t) x id.0 row
look_ups-put_slot t x id row = λ i. record (look_ups t) { slot = λ y j. (get-insert slot_total t.slots (x, id) row (y, prop_id j) ∙ ap (λ b. cond b (Some row) (get t.slots (y, prop_id j))) (slot_key x y id.0 j)) i }
