-- Which damage is told: the first kind that is met, with the least key at which it is.
use Rattle.std.specs.{Prelude.{◌≡◌, ℕ, pos, negsuc, ◌<ℤ◌, ◌<◌, true, Option, None, Some, IsSome, ◌⊎◌}, FinMap.{get}}
use Rattle.moo_value.specs.declared.value.ObjNo.{ObjNo}
use Rattle.moo_rows.specs.{declared.row.PetitionId.{PetitionId}, declared.row.PropId.{PropId}, declared.row.VerbId.{VerbId}, Maps.{Maps}}
use Rattle.moo_damage.specs.declared.kind.Kind.{Kind}
use Rattle.moo_damage.specs.declared.kind.Kind.TheVariants.{BadHead, BadCell, PastHead, NoParent, ParentLoop, NoPlace, PlaceLoop, NoDefiner}
use Rattle.moo_damage.specs.declared.kind.Kind.TheVariants.{DoubleName, StrangeSlot, MissingSlot, ClearDefiner, StrangeVerb, Mismatch}
use Rattle.moo_damage.specs.{declared.kind.Key.{Key}, declared.kind.Key.TheVariants.{Head, Object, Prop, Slot, Verb, Petition}}
use Rattle.moo_damage.specs.{declared.trees.TreeLink.{TreeLink}, declared.trees.TreeLink.TheVariants.{Parent, Location}}
use Rattle.moo_damage.specs.Damage.{is_object_past, is_prop_past, is_verb_past, is_petition_past, is_lost, Loops, lacks_definer, is_double}
use Rattle.moo_damage.specs.Damage.{is_strange, is_missing, is_clear_definer, is_strange_verb}

-- ---- the order of kinds and of keys

-- the place of a kind in the order in which they are looked for
abbrev pub rank : Kind → ℕ
rank BadHead = 1
rank BadCell = 2
rank PastHead = 3
rank NoParent = 4
rank ParentLoop = 5
rank NoPlace = 6
rank PlaceLoop = 7
rank NoDefiner = 8
rank DoubleName = 9
rank StrangeSlot = 10
rank MissingSlot = 11
rank ClearDefiner = 12
rank StrangeVerb = 13
rank Mismatch = 14

-- the head before objects before properties before slots before verbs before petitions
abbrev pub table : Key → ℕ
table Head = 0
table (Object n) = 1
table (Prop id) = 2
table (Slot n id) = 3
table (Verb n id) = 4
table (Petition id) = 5

-- one key is before another: by tables, and in one table by number, of a slot or a verb first by the number of its object
abbrev pub IsBelow : Key → Key → Type 0
IsBelow (Object n) (Object k) = n <ℤ k
IsBelow (Prop i) (Prop j) = i <ℤ j
IsBelow (Slot n i) (Slot k j) = (n <ℤ k) ⊎ ((n ≡ k) × (i <ℤ j))
IsBelow (Verb n i) (Verb k j) = (n <ℤ k) ⊎ ((n ≡ k) × (i <ℤ j))
IsBelow (Petition i) (Petition j) = i <ℤ j
IsBelow a b = table a < table b

-- ---- what is met where

-- a row is there that is bad
abbrev pub Has : {K X : Type 0} → (K → Option X) → (K → X → Type 0) → K → Type 0
Has {X = X} rows bad key = (row : X) × (rows key ≡ Some row) × bad key row

-- the kind is met at the object
abbrev pub AtObject : Maps → Kind → ObjNo → Type 0
AtObject m PastHead = Has (get m.objects) (λ x row. is_object_past m.head x ≡ true)
AtObject m NoParent = Has (get m.objects) (λ x row. is_lost Parent m row ≡ true)
AtObject m ParentLoop = Has (get m.objects) (λ x row. Loops Parent m x)
AtObject m NoPlace = Has (get m.objects) (λ x row. is_lost Location m row ≡ true)
AtObject m PlaceLoop = Has (get m.objects) (λ x row. Loops Location m x)
AtObject m _ = λ x. ⊥

-- the kind is met at the property
abbrev pub AtProp : Maps → Kind → PropId → Type 0
AtProp m PastHead = Has (get m.props) (λ id row. is_prop_past m.head id ≡ true)
AtProp m NoDefiner = Has (get m.props) (λ id row. lacks_definer m row ≡ true)
AtProp m DoubleName = Has (get m.props) (λ id row. is_double m id row ≡ true)
AtProp m _ = λ id. ⊥

-- the kind is met at the slot
abbrev pub AtSlot : Maps → Kind → ObjNo × PropId → Type 0
AtSlot m StrangeSlot = Has (get m.slots) (λ key row. is_strange m key ≡ true)
AtSlot m MissingSlot = λ key. IsSome (get m.objects key.0) × (is_missing m key ≡ true)
AtSlot m ClearDefiner = Has (get m.slots) (λ key row. is_clear_definer m key row ≡ true)
AtSlot m _ = λ key. ⊥

-- the kind is met at the verb
abbrev pub AtVerb : Maps → Kind → ObjNo × VerbId → Type 0
AtVerb m PastHead = Has (get m.verbs) (λ key row. is_verb_past m.head key ≡ true)
AtVerb m StrangeVerb = Has (get m.verbs) (λ key row. is_strange_verb m key ≡ true)
AtVerb m _ = λ key. ⊥

-- the kind is met at the petition
abbrev pub AtPetition : Maps → Kind → PetitionId → Type 0
AtPetition m PastHead = Has (get m.petitions) (λ id row. is_petition_past m.head id ≡ true)
AtPetition m _ = λ id. ⊥

-- the kind is met in the rows at this key; the first two kinds are of cells, the last is of two lots of rows
abbrev pub InRows : Maps → Kind → Key → Type 0
InRows m kind Head = ⊥
InRows m kind (Object n) = AtObject m kind (record { 0 = n })
InRows m kind (Prop (pos id)) = AtProp m kind (record { 0 = id })
InRows m kind (Prop (negsuc i)) = ⊥
InRows m kind (Slot n (pos id)) = AtSlot m kind (record { 0 = n }, record { 0 = id })
InRows m kind (Slot n (negsuc i)) = ⊥
InRows m kind (Verb n (pos id)) = AtVerb m kind (record { 0 = n }, record { 0 = id })
InRows m kind (Verb n (negsuc i)) = ⊥
InRows m kind (Petition (pos id)) = AtPetition m kind (record { 0 = id })
InRows m kind (Petition (negsuc i)) = ⊥

-- the kind of damage of a link that names no object
abbrev pub lost_kind : TreeLink → Kind
lost_kind Parent = NoParent
lost_kind Location = NoPlace

-- the kind of damage of a chain of links that doesn't end
abbrev pub loop_kind : TreeLink → Kind
loop_kind Parent = ParentLoop
loop_kind Location = PlaceLoop

-- ---- the first of all

-- no kind before this place is met
abbrev pub NoneBefore : (Kind → Key → Type 0) → ℕ → Type 0
NoneBefore meets n = (kind : Kind) → rank kind < n → (key : Key) → ¬ (meets kind key)

-- the key is the least at which this is met; `None` if it is met at none
abbrev pub IsLeast : (Key → Type 0) → Option Key → Type 0
IsLeast meets None = (key : Key) → ¬ (meets key)
IsLeast meets (Some key) = meets key × ((other : Key) → IsBelow other key → ¬ (meets other))

-- the kind is met at the key and at none below it, and no kind before it is met anywhere
abbrev pub IsFirstMet : (Kind → Key → Type 0) → Kind → Key → Type 0
IsFirstMet meets kind key = NoneBefore meets (rank kind) × IsLeast (meets kind) (Some key)

-- the first damage that is met, of any kind, with its least key; or None, and no kind before this place is met
abbrev pub IsFirstBefore : (Kind → Key → Type 0) → ℕ → Option (Kind × Key) → Type 0
IsFirstBefore meets n None = NoneBefore meets n
IsFirstBefore meets n (Some d) = IsFirstMet meets d.0 d.1

-- the kind is met in the rows at the key and at none below it, and no kind before it is met anywhere
abbrev pub IsFirstInRows : Maps → Kind → Key → Type 0
IsFirstInRows m = IsFirstMet (InRows m)
