-- The rows that the dump of a state is read as.
use Rattle.std.specs.Prelude.{◌≡◌, ℕ, zero, suc, ◌+◌, ◌<◌, ◌≤◌, true, List, map, length, Option, Some, None, is_some, slice_get}
use Rattle.std.specs.{Prelude.{if◌then◌else◌}, Option.{option_map, option_and_then}, List.{flat_map}, FinMap.{FinMap, get}}
use Rattle.moo_value.specs.declared.value.ObjNo.{ObjNo}
use Rattle.moo_rows.specs.{declared.row.PetitionId.{PetitionId}, declared.row.PetitionRow.{PetitionRow}, declared.row.PropId.{PropId}}
use Rattle.moo_rows.specs.{declared.row.PropRow.{PropRow}, declared.row.SlotRow.{SlotRow}, declared.row.VerbId.{VerbId}}
use Rattle.moo_rows.specs.{declared.row.VerbRow.{VerbRow}, Maps.{Maps, petition_cmp}}
use Rattle.moo_world.specs.{Judge.{State}, ObjectLists.{objects_of}, Objects.{Property, same_object, folded}}
use Rattle.moo_world.specs.World.{World, Slot, row_of, slot_of, defined_by_any, directory_of}

-- every property, by objects in ascending order, and of one object in the order of definition
abbrev pub all_properties : World → List Property
all_properties w = defined_by_any w (objects_of w)

-- every verb with its object, by objects in ascending order, and of one object in the order of its directory
abbrev pub all_verbs : World → List (ObjNo × VerbRow)
all_verbs w = flat_map (λ x. map (λ v. (x, v)) (directory_of w x)) (objects_of w)

-- the element of a number in a list, counted from 1
abbrev pub at_number : {A : Type 0} → List A → ℕ → Option A
at_number l zero = None
at_number l (suc n) = slice_get l n

-- the row of a property: its definer and its name
abbrev pub property_row : Property → PropRow
property_row p = record { definer = p.0; name = p.1 }

-- the row of a slot: its owner, its rights and its value
abbrev pub dumped_slot : Slot → SlotRow
dumped_slot k = record { owner = k.owner; bits = k.bits; state = k.state }

-- the slot of this property on x
abbrev pub slot_of_property : World → ObjNo → Property → Option SlotRow
slot_of_property w x p = option_and_then (λ k. if same_object k.definer p.0 then Some (dumped_slot k) else None) (slot_of w x (folded p.1))

-- the verb, if it is one of x
abbrev pub verb_on : ObjNo → ObjNo × VerbRow → Option VerbRow
verb_on x e = if same_object x e.0 then Some e.1 else None

-- the least number from 1 on that is above that of each petition
pub record IsAbove (petitions : FinMap petition_cmp PetitionRow) (next : ℕ) : Type 0 where
  pub some : 0 < next
  pub above : (id : PetitionId) → is_some (get petitions id) ≡ true → id.0 < next
  pub least : (n : ℕ) → 0 < n → ((id : PetitionId) → is_some (get petitions id) ≡ true → id.0 < n) → next ≤ n

-- a number is left for each property, and for each verb
pub record HasNumbers (s : State) : Type 0 where
  pub properties : length (all_properties s.world) < 4294967295
  pub verbs : length (all_verbs s.world) < 4294967295

-- The rows of a state. Properties and verbs are numbered from 1; the next number of each is one above the last.
pub record AreRowsOf (s : State) (m : Maps) : Type 0 where
  pub seq : m.head.seq ≡ s.seq
  pub top : m.head.top ≡ s.world.top
  pub next_prop : m.head.next_prop ≡ length (all_properties s.world) + 1
  pub next_verb : m.head.next_verb ≡ length (all_verbs s.world) + 1
  pub next_petition : IsAbove s.petitions m.head.next_petition
  pub objects : (x : ObjNo) → get m.objects x ≡ row_of s.world x
  pub props : (id : PropId) → get m.props id ≡ option_map property_row (at_number (all_properties s.world) id.0)
  pub slots : (x : ObjNo) (id : PropId) →
      get m.slots (x, id) ≡ option_and_then (slot_of_property s.world x) (at_number (all_properties s.world) id.0)
  pub verbs : (x : ObjNo) (id : VerbId) → get m.verbs (x, id) ≡ option_and_then (verb_on x) (at_number (all_verbs s.world) id.0)
  pub petitions : m.petitions ≡ s.petitions
