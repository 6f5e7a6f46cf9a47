-- A value that is set and a new name keep the world well formed, and worlds with other slots have names clash alike.
use Rattle.moo_world.{proofs.Lemmas.{arith, ◌≡◌, true, false, ◌||◌, List, [], ◌∷◌, map, refl, subst, is_some, filter, flat_map, list_any, false≢true, or_cases, ObjNo, Value, Set, fits, clashes, property_renamed, with_slot_of, Name, object_at, same_text, same_property, folded, is_among, same_text-Decides, same_property-self, defines_name, numbers_below, World, IsWellFormed, SameButSlots, is_object, is_property_name, property_names_of, numbers_to, property_named, IsWellFormed-with_slot_of, slot_owner, names_same, objects_same, both_true}, proofs.Ownership.Created.{chains_same}, proofs.Inheritance.Replacement.{IsWellFormed-property_renamed}}

-- a slot that is set to a value
pub set_formed : (w : World) (x : ObjNo) (n : Name) (v : Value) → fits v ≡ true → IsWellFormed w → IsWellFormed (with_slot_of w x n (λ s. record s { state = Set v }))
set_formed w x n v f wf = IsWellFormed-with_slot_of w x n (λ s. record s { state = Set v }) wf (λ s. refl) (λ s e d c. absurd (cc)) (λ s e. both_true (slot_owner s e) f)

-- ---- names

-- a defined name, as it is spelled
spelled : (x : ObjNo) (n : Name) (l : List Name) → list_any (λ m. same_text (folded m) (folded n)) l ≡ true → (m : Name) × (folded m ≡ folded n) × (list_any (same_property (x, m)) (map (λ k. (x, k)) l) ≡ true)
spelled x n [] e = absurd (false≢true e)
spelled x n (m ∷ l) e = grind (arith, spelled x n l, or_cases, same_text, same_text-Decides, same_property-self)

-- a property is renamed alike however its name is spelled
renamed_alike : (w : World) (x : ObjNo) (m n new : Name) → folded m ≡ folded n → property_renamed w x m new ≡ property_renamed w x n new
renamed_alike w x m n new e = grind arith

pub renamed_formed : (w : World) (x : ObjNo) (old new : Name) → is_object w x ≡ true → defines_name w x old ≡ true → is_property_name new ≡ true → clashes w x new ≡ false → IsWellFormed w → IsWellFormed (property_renamed w x old new)
renamed_formed w x old new xo mine good free wf =
    let m = spelled x old (property_names_of w x) mine in
    subst IsWellFormed (renamed_alike w x m.0 old new m.1) (IsWellFormed-property_renamed w wf x m.0 new xo m.2 free good)

-- worlds that differ in slots alone have names clash alike
pub clashes_same : (v w : World) → SameButSlots v w → (x : ObjNo) (n : Name) → clashes v x n ≡ clashes w x n
clashes_same v w same x n = λ i.
    is_some (property_named (flat_map (λ d. map (λ m. (d, m)) (names_same v w same i d)) (chains_same v w same x i)) (folded n))
    || is_some (property_named (flat_map (λ d. map (λ m. (d, m)) (names_same v w same i d)) (filter (λ y. is_among x (chains_same v w same y i)) (filter (λ y. objects_same v w same y i) (map object_at (numbers_below (numbers_to (same i).top)))))) (folded n))

pub defines_same : (v w : World) → SameButSlots v w → (x : ObjNo) (n : Name) → defines_name v x n ≡ defines_name w x n
defines_same v w same x n = λ i. list_any (λ m. same_text (folded m) (folded n)) (names_same v w same i x)
