-- What the slots are after they are removed and put one by one.
use Rattle.moo_props.{proofs.Cases.{cond_again, cond_and, cond_same, cond_twice}, proofs.Folds.{all_change, all_of_change}, proofs.Words.{arith, ◌≡◌, Bool, cond, Option, None, Some, List, [], ◌∷◌, refl, sym, ap, ◌∙◌, ◌&&◌, is_some, option_map, Decides, eq_by_cmp, list_any, AllByRecursion, FinMap, get, get-insert, get-remove, and_parts, ObjNo, PropId, SlotRow, Held, prop_cmp, slot_cmp, prop_exact, slot_exact, prop_total, slot_total, same_object, same_object-Decides, key-Decides, decided_alike, Origin, slots_moved, origins, fresh_of, slot_removed, slot_put, without_on, with_fresh, fresh_row, ids_for, and-false}}

abbrev pub is_id : PropId → PropId → Bool
is_id j id = eq_by_cmp prop_cmp j id

-- the property is in the list
abbrev pub has_id : PropId → List PropId → Bool
has_id j ids = list_any (is_id j) ids

pub is_id-Decides : (j id : PropId) → Decides (is_id j id) (j ≡ id)
is_id-Decides j id = key-Decides prop_cmp prop_total prop_exact j id

pub key_parts : (y z : ObjNo) (id j : PropId) → eq_by_cmp slot_cmp (z, j) (y, id) ≡ (same_object y z && is_id j id)
key_parts y z id j = decided_alike _ _ (◌≡◌ {A = ObjNo × PropId} (z, j) (y, id)) (key-Decides slot_cmp slot_total slot_exact (z, j) (y, id)) (
  λ e. let parts = and_parts (same_object y z) (is_id j id) e in λ i. (sym ((same_object-Decides y z).0 parts.0) i, (is_id-Decides j id).0 parts.1 i),
  λ e i. (same_object-Decides y z).1 (sym (ap (λ (k : ObjNo × PropId). k.0) e)) i && (is_id-Decides j id).1 (ap (λ (k : ObjNo × PropId). k.1) e) i,
)

abbrev slot_at : Held → ObjNo → PropId → Option SlotRow
slot_at held z j = get held.maps.slots (z, j)

pub slot_at-without : (y z : ObjNo) (j : PropId) (ids : List PropId) (held : Held) → slot_at (without_on y ids held) z j ≡ cond (same_object y z && has_id j ids) None (slot_at held z j)
slot_at-without y z j ids held =
    all_change (slot_removed y) (λ h. slot_at h z j) (is_id j) (cond (same_object y z) None) (cond_again (same_object y z) None)
    (λ id h. get-remove slot_total h.maps.slots (y, id) (z, j) ∙ ap (λ b. cond b None (slot_at h z j)) (key_parts y z id j) ∙ cond_and (same_object y z) (is_id j id) None (slot_at h z j))
    ids held
    ∙ sym (cond_and (same_object y z) (has_id j ids) None (slot_at held z j))

-- the slot that is left of g after the fresh ones are put
abbrev pub fresh_in : ObjNo → List Origin → PropId → Option SlotRow → Option SlotRow
fresh_in owner [] j g = g
fresh_in owner (o ∷ os) j g = fresh_in owner os j (cond (is_id j o.id) (Some (fresh_of owner o)) g)

pub slot_at-fresh : (y z owner : ObjNo) (j : PropId) (os : List Origin) (held : Held) → slot_at (with_fresh y owner os held) z j ≡ cond (same_object y z) (fresh_in owner os j (slot_at held z j)) (slot_at held z j)
slot_at-fresh y z owner j [] held = sym (cond_same (same_object y z) (slot_at held z j))
slot_at-fresh y z owner j (o ∷ os) held = grind (arith, slot_at-fresh y z owner j os (slot_put y o.id (fresh_of owner o) held), get-insert slot_total held.maps.slots (y, o.id) (fresh_of owner o) (z, j), key_parts y z o.id j)

module _ (slots : FinMap slot_cmp SlotRow) (q : ObjNo) where
  pub fresh_in-origins : (owner : ObjNo) (j : PropId) (o : Option SlotRow) → get slots (q, j) ≡ o → (ids : List PropId) (g : Option SlotRow) → fresh_in owner (origins slots q ids) j g ≡ cond (has_id j ids && is_some o) (option_map (fresh_row owner) o) g
  fresh_in-origins owner j o e [] g = refl
  fresh_in-origins owner j o e (id ∷ ids) g = grind (arith, is_id-Decides j id, cond_same, and-false, fresh_in-origins owner j o e ids)

-- the fresh ones of one property are there whatever was
fresh_alike : (owner : ObjNo) (j : PropId) (os : List Origin) (g : Option SlotRow) → fresh_in owner os j g ≡ cond (list_any (λ o. is_id j o.id) os) (fresh_in owner os j None) g
fresh_alike owner j [] g = refl
fresh_alike owner j (o ∷ os) g = grind (arith, fresh_alike owner j os g)

module _ (lost : ObjNo → List PropId) (os : List Origin) (owner : ObjNo → ObjNo) (z : ObjNo) (j : PropId) where
  -- what becomes of a slot
  abbrev step : Option SlotRow → Option SlotRow
  step g = fresh_in (owner z) os j (cond (has_id j (lost z)) None g)

  twice : (g : Option SlotRow) → step (step g) ≡ step g
  twice g = grind (arith, fresh_alike, cond_twice)

  one_moved : (e : ObjNo × ObjNo) (held : Held) → e.1 ≡ owner e.0 → slot_at (with_fresh e.0 e.1 os (without_on e.0 (lost e.0) held)) z j ≡ cond (same_object e.0 z) (step (slot_at held z j)) (slot_at held z j)
  one_moved e held h = grind (arith, slot_at-fresh, slot_at-without, same_object-Decides)

  pub all_moved : (es : List (ObjNo × ObjNo)) (held : Held) → AllByRecursion (λ e. e.1 ≡ owner e.0) es
      → slot_at (slots_moved lost os es held) z j ≡ cond (list_any (λ e. same_object e.0 z) es) (step (slot_at held z j)) (slot_at held z j)
  all_moved = all_of_change (λ e held. with_fresh e.0 e.1 os (without_on e.0 (lost e.0) held)) (λ held. slot_at held z j) (λ e. same_object e.0 z) step twice (λ e. e.1 ≡ owner e.0) one_moved

-- where the object itself loses what all lose
pub ids_same : (x : ObjNo) (ids : List PropId) → ids_for x ids ids ≡ (λ y. ids)
ids_same x ids = λ i y. cond_same (same_object x y) ids i
