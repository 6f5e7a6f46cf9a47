-- The end of an object, at the level of the rows.
use Rattle.std.specs.{Prelude.{Bool, false, ◌||◌, List, map, Option, Some, None, unwrap_or, if◌then◌else◌}, Option.{option_map}}
use Rattle.std.specs.{Ordering.{int_eq}, List.{filter}, FinMap.{get, insert}}
use Rattle.moo_value.specs.declared.value.ObjNo.{ObjNo}
use Rattle.moo_rows.specs.{declared.row.ObjRow.{ObjRow}, declared.row.PropId.{PropId}, declared.row.SlotRow.{SlotRow}}
use Rattle.moo_rows.specs.{declared.row.VerbId.{VerbId}, declared.row.VerbRow.{VerbRow}, Maps.{Held, wrote, without_prop, without_verb}}
use Rattle.moo_world.specs.Objects.{nothing, same_object}
use Rattle.moo_props.specs.Slots.{after_each}

-- ---- who is concerned

-- the row's parent or location is the object
abbrev pub links_to : ObjNo → ObjRow → Bool
links_to object row = same_object object row.parent || same_object object row.location

-- there is a row, and its parent or location is the object
abbrev pub row_linked : ObjNo → Option ObjRow → Bool
row_linked object row = unwrap_or (option_map (links_to object) row) false

-- of these entries, those whose parent or location is the object
abbrev pub linked_among : ObjNo → List (ObjNo × ObjRow) → List ObjNo
linked_among object pairs = map (λ pair. pair.0) (filter (λ pair. links_to object pair.1) pairs)

-- the verbs of the object, of these entries
abbrev pub verbs_among : ObjNo → List ((ObjNo × VerbId) × VerbRow) → List (ObjNo × VerbId)
verbs_among object pairs = map (λ pair. pair.0) (filter (λ pair. int_eq pair.0.0.0 object.0) pairs)

-- the properties of these slots
abbrev pub ids_among : List ((ObjNo × PropId) × SlotRow) → List PropId
ids_among pairs = map (λ pair. pair.0.1) pairs

-- the row with another parent, if the object was its parent, and nowhere, if it was in the object
abbrev pub released_row : ObjNo → ObjNo → ObjRow → ObjRow
released_row object parent row = record row {
  parent = if same_object object row.parent then parent else row.parent;
  location = if same_object object row.location then nothing else row.location;
}

-- ---- what is held after each step

-- without the rows of these properties
abbrev pub props_removed : List PropId → Held → Held
props_removed ids held = after_each (λ id before. without_prop before id) ids held

-- without the rows of these verbs
abbrev pub verbs_removed : List (ObjNo × VerbId) → Held → Held
verbs_removed keys held = after_each (λ key before. without_verb before key) keys held

-- with the other's row released, if it has one
abbrev pub with_released : ObjNo → ObjNo → ObjNo → Held → Option ObjRow → Held
with_released object parent other held None = held
with_released object parent other held (Some row) =
    wrote held (record (held.maps) { objects = insert held.maps.objects other (released_row object parent row) })

-- with the other's row released from the object, its parent or location
abbrev pub row_released : ObjNo → ObjNo → ObjNo → Held → Held
row_released object parent other held = with_released object parent other held (get held.maps.objects other)

-- with the row of each of the others released
abbrev pub rows_released : ObjNo → ObjNo → List ObjNo → Held → Held
rows_released object parent others held = after_each (row_released object parent) others held
