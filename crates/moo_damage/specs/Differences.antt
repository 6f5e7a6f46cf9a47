-- The first row in which two sets of rows differ.
use Rattle.std.specs.{Prelude.{◌≡◌, ◌≢◌, Bool, true, false, pos, negsuc, Option, None, Some, ⊤}, declared.cmp.Ordering.{Ordering}}
use Rattle.std.specs.{declared.cmp.Ordering.TheVariants.{Less}, FinMap.{FinMap, get}}
use Rattle.moo_rows.specs.Maps.{Maps}
use Rattle.moo_damage.specs.{declared.kind.Key.{Key}, declared.kind.Key.TheVariants.{Head, Object, Prop, Slot, Verb, Petition}}
use Rattle.moo_damage.specs.{First.{IsLeastBad}, Kinds.{IsBelow}}

-- both have the same row at this key, or neither has one
abbrev pub AgreeAt : Maps → Maps → Key → Type 0
AgreeAt a b Head = a.head ≡ b.head
AgreeAt a b (Object n) = get a.objects (record { 0 = n }) ≡ get b.objects (record { 0 = n })
AgreeAt a b (Prop (pos id)) = get a.props (record { 0 = id }) ≡ get b.props (record { 0 = id })
AgreeAt a b (Prop (negsuc i)) = ⊤
AgreeAt a b (Slot n (pos id)) = get a.slots (record { 0 = n }, record { 0 = id }) ≡ get b.slots (record { 0 = n }, record { 0 = id })
AgreeAt a b (Slot n (negsuc i)) = ⊤
AgreeAt a b (Verb n (pos id)) = get a.verbs (record { 0 = n }, record { 0 = id }) ≡ get b.verbs (record { 0 = n }, record { 0 = id })
AgreeAt a b (Verb n (negsuc i)) = ⊤
AgreeAt a b (Petition (pos id)) = get a.petitions (record { 0 = id }) ≡ get b.petitions (record { 0 = id })
AgreeAt a b (Petition (negsuc i)) = ⊤

-- the rows differ at the key, and agree at each key below it
abbrev pub IsFirstDifference : Maps → Maps → Key → Type 0
IsFirstDifference a b key = ¬ (AgreeAt a b key) × ((other : Key) → IsBelow other key → AgreeAt a b other)

-- ---- one map

-- the least key whose rows in two maps differ, or that one alone has; `None` if there is no such key
abbrev pub IsFirstUnlike : {K X : Type 0} {cmp : K → K → Ordering} → FinMap cmp X → FinMap cmp X → Option K → Type 0
IsFirstUnlike {K = K} a b None = (k : K) → get a k ≡ get b k
IsFirstUnlike {K = K} {cmp = cmp} a b (Some key) = (get a key ≢ get b key) × ((k : K) → cmp k key ≡ Less → get a k ≡ get b k)

-- whether the row of a key isn't the row of the key in another map
abbrev pub IsUnlike : {K X : Type 0} {cmp : K → K → Ordering} → FinMap cmp X → Bool → K → X → Type 0
IsUnlike there true key row = get there key ≢ Some row
IsUnlike there false key row = get there key ≡ Some row

-- the least key of a map whose row isn't the row of the key in another map; `None` if there is no such key
abbrev pub IsLeastUnlike : {K X : Type 0} {cmp : K → K → Ordering} → FinMap cmp X → FinMap cmp X → Option K → Type 0
IsLeastUnlike rows there o = IsLeastBad rows (IsUnlike there false) (IsUnlike there true) o
