-- What a change of parent touches, key by key.
use Rattle.std.specs.Prelude.{◌≡◌, Bool, false, ℕ, ◌+◌, List, [], length, map, Option, None, unwrap_or, if◌then◌else◌}
use Rattle.std.specs.{Option.{option_map}, List.{filter}, FinMap.{FinMap, get, entries}}
use Rattle.moo_value.specs.declared.value.ObjNo.{ObjNo}
use Rattle.moo_rows.specs.{declared.row.ObjRow.{ObjRow}, declared.row.PropId.{PropId}, declared.row.PropRow.{PropRow}}
use Rattle.moo_rows.specs.{declared.row.SlotRow.{SlotRow}, Maps.{Maps, prop_cmp, slot_cmp}}
use Rattle.moo_world.specs.{Objects.{same_object, is_among}, World.{chain, owner_of}, Rows.{world_of}, Manual.{lost, gained}}
use Rattle.moo_tree.specs.Under.{owners_under}
use Rattle.moo_props.specs.{Present.{ArePresent, AreAbsent, AreAscending}, Reparent.{relinked_list}, Slots.{fresh_row, keys_over}}
use Rattle.moo_props.specs.declared.reparenting.Touched.{Touched}

-- the properties of these entries that objects of a list define
abbrev pub props_among : List ObjNo → List (PropId × PropRow) → List PropId
props_among definers pairs = map (λ pair. pair.0) (filter (λ pair. is_among pair.1.definer definers) pairs)

-- the properties that objects of a list define, ascending
abbrev pub props_of : List ObjNo → FinMap prop_cmp PropRow → List PropId
props_of definers props = props_among definers (entries props)

-- on the object and each descendant, the properties of the definers between it and the nearest common ancestor, ascending
abbrev pub removed_keys : Maps → ObjNo → ObjNo → List (ObjNo × PropId)
removed_keys maps object new_parent = keys_over (props_of (lost (world_of maps) object new_parent) maps.props) (owners_under maps object)

-- on the object and each descendant, the properties of the definers between the new parent and that ancestor, ascending
abbrev pub added_keys : Maps → ObjNo → ObjNo → List (ObjNo × PropId)
added_keys maps object new_parent = keys_over (props_of (gained (world_of maps) object new_parent) maps.props) (owners_under maps object)

-- the object, if the new parent isn't its parent
abbrev pub relinked_objects : Maps → ObjNo → ObjNo → List ObjNo
relinked_objects maps object new_parent = unwrap_or (option_map (λ row. relinked_list object row new_parent) (get maps.objects object)) []

-- an object of the list defines the property
abbrev pub is_defined_among : List ObjNo → Maps → PropId → Bool
is_defined_among definers maps id = unwrap_or (option_map (λ row. is_among row.definer definers) (get maps.props id)) false

-- the slot of a key after the object is put under the new parent
abbrev pub slot_after : Maps → ObjNo → ObjNo → ObjNo × PropId → Option SlotRow
slot_after maps object new_parent key =
    let world = world_of maps in
    if is_among object (chain world key.0)
    then (if is_defined_among (gained world object new_parent) maps key.1
    then option_map (fresh_row (owner_of world key.0)) (get maps.slots (new_parent, key.1))
    else (if is_defined_among (lost world object new_parent) maps key.1 then None else get maps.slots key))
    else get maps.slots key

-- the row of another object after the object is put under the new parent
abbrev pub row_after : Maps → ObjNo → ObjNo → ObjNo → Option ObjRow
row_after maps object new_parent other =
    option_map (λ row. if same_object object other then record row { parent = new_parent } else row) (get maps.objects other)

-- the head, the properties, the verbs and the petitions are as they were
abbrev pub IsSameButSlotsAndObjects : Maps → Maps → Type 0
IsSameButSlotsAndObjects old new = new ≡ record old { objects = new.objects; slots = new.slots }

-- ---- what a change of parent leaves

-- What is listed is the slots that go, those that come, and the object if it has another parent, the slots ascending. Each slot that goes
-- was there, and none that comes was.
pub record ListsTouched (old : Maps) (object new_parent : ObjNo) (touched : Touched) : Type 0 where
  pub removed : touched.removed ≡ removed_keys old object new_parent
  pub added : touched.added ≡ added_keys old object new_parent
  pub relinked : touched.relinked ≡ relinked_objects old object new_parent
  pub removed_order : AreAscending slot_cmp touched.removed
  pub added_order : AreAscending slot_cmp touched.added
  pub had : ArePresent old.slots (removed_keys old object new_parent)
  pub lacked : AreAbsent old.slots (added_keys old object new_parent)

-- The slots that go are gone, and those that come are there. Each slot and each object is as it is after this change, and the rest is as
-- it was.
pub record LeavesTouched (old : Maps) (object new_parent : ObjNo) (new : Maps) : Type 0 where
  pub gone : AreAbsent new.slots (removed_keys old object new_parent)
  pub came : ArePresent new.slots (added_keys old object new_parent)
  pub slots : (key : ObjNo × PropId) → get new.slots key ≡ slot_after old object new_parent key
  pub objects : (other : ObjNo) → get new.objects other ≡ row_after old object new_parent other
  pub rest : IsSameButSlotsAndObjects old new

-- how many rows are listed
abbrev pub rows_touched : Touched → ℕ
rows_touched touched = length touched.removed + length touched.added + length touched.relinked
