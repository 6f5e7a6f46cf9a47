-- Ascending lists of the same keys are the same.
use Rattle.moo_props.proofs.Words.{◌≡◌, Bool, List, [], ◌∷◌, Ordering, IsTotalOrder, eq_by_cmp, list_any, CmpEqualImpliesEq, AreAscending}
use Rattle.std.{specs.List.Sorted.{IsStrictlySortedBy}, proofs.lemmas.Map.Lookups.{btree_set_from_contains}}

abbrev pub holds : {K : Type 0} → (K → K → Ordering) → List K → K → Bool
holds cmp l k = list_any (eq_by_cmp cmp k) l

sorted : {K : Type 0} (cmp : K → K → Ordering) (l : List K) → AreAscending cmp l → IsStrictlySortedBy cmp l
unfolding IsStrictlySortedBy
sorted cmp [] u = tt
sorted cmp (k ∷ l) u = (u.0, sorted cmp l u.1)

pub unique : {K : Type 0} {cmp : K → K → Ordering} → IsTotalOrder cmp → CmpEqualImpliesEq cmp → (a b : List K) → AreAscending cmp a → AreAscending cmp b → ((k : K) → holds cmp a k ≡ holds cmp b k) → a ≡ b
unique {cmp = cmp} total exact a b u v same = btree_set_from_contains total (record { keys = a }) (record { keys = b }) (sorted cmp a u) (sorted cmp b v) same exact
