-- Keys that have rows, and keys in order.
use Rattle.std.specs.{Prelude.{◌≡◌, true, List, [], ◌∷◌, None, is_some}, List.{AllByRecursion}, FinMap.{FinMap, get}}
use Rattle.std.specs.{declared.cmp.Ordering.{Ordering}, declared.cmp.Ordering.TheVariants.{Less}}

-- each of these keys has a row
abbrev pub ArePresent : {K X : Type 0} {cmp : K → K → Ordering} → FinMap cmp X → List K → Type 0
ArePresent rows keys = AllByRecursion (λ key. is_some (get rows key) ≡ true) keys

-- none of these keys has a row
abbrev pub AreAbsent : {K X : Type 0} {cmp : K → K → Ordering} → FinMap cmp X → List K → Type 0
AreAbsent rows keys = AllByRecursion (λ key. get rows key ≡ None) keys

-- each key is less than all after it, so none is there twice
abbrev pub AreAscending : {K : Type 0} → (K → K → Ordering) → List K → Type 0
AreAscending cmp [] = Unit {0}
AreAscending cmp (key ∷ keys) = AllByRecursion (λ other. cmp key other ≡ Less) keys × AreAscending cmp keys
