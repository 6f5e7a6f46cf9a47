-- Slots that go and slots that come, at the level of the rows.
use Rattle.std.specs.{Prelude.{List, map, if◌then◌else◌}, Option.{option_map}, List.{filter_map, flat_map, fold}}
use Rattle.std.specs.FinMap.{FinMap, get, insert, remove}
use Rattle.moo_value.specs.declared.value.ObjNo.{ObjNo}
use Rattle.moo_rows.specs.{declared.row.PropId.{PropId}, declared.row.SlotRow.{SlotRow}, declared.row.SlotState.TheVariants.{Clear}}
use Rattle.moo_rows.specs.Maps.{Held, wrote, slot_cmp}
use Rattle.moo_world.specs.{Objects.{nothing, same_object}, Rows.{slot_seen}, World.{Slot, fresh}}
use Rattle.moo_props.specs.declared.slots.Origin.{Origin}

-- ---- fresh slots

-- the row of a slot, which doesn't say who defines the property
abbrev pub row_of_slot : Slot → SlotRow
row_of_slot slot = record { owner = slot.owner; bits = slot.bits; state = slot.state }

-- a fresh slot, as a world has it, on an object of this owner: whoever defines the property, the row is the same
abbrev pub fresh_row : ObjNo → SlotRow → SlotRow
fresh_row owner row = row_of_slot (fresh owner (slot_seen nothing row))

-- the fresh slot that is made from an origin, on an object of this owner
abbrev pub fresh_of : ObjNo → Origin → SlotRow
fresh_of owner origin = fresh_row owner (record { owner = origin.owner; bits = origin.bits; state = Clear })

-- ---- what they are made from

-- the origin that a slot of a property is: its owner and its bits count
abbrev pub origin_of : PropId → SlotRow → Origin
origin_of id row = record { id = id; owner = row.owner; bits = row.bits }

-- the origins that these slots are
abbrev pub origins_among : List ((ObjNo × PropId) × SlotRow) → List Origin
origins_among pairs = map (λ pair. origin_of pair.0.1 pair.1) pairs

-- the origins that the parent's slots of these properties are
abbrev pub origins : FinMap slot_cmp SlotRow → ObjNo → List PropId → List Origin
origins slots parent ids = filter_map (λ id. option_map (origin_of id) (get slots (parent, id))) ids

-- ---- what is held after each step

-- after a step for each item of a list
abbrev pub after_each : {A : Type 0} → (A → Held → Held) → List A → Held → Held
after_each step items held = fold (λ done item. step item done) held items

-- without the slot of a property on an object
abbrev pub slot_removed : ObjNo → PropId → Held → Held
slot_removed object id held = wrote held (record (held.maps) { slots = remove held.maps.slots (object, id) })

-- with this slot of a property on an object
abbrev pub slot_put : ObjNo → PropId → SlotRow → Held → Held
slot_put object id row held = wrote held (record (held.maps) { slots = insert held.maps.slots (object, id) row })

-- without the object's slots of these properties
abbrev pub without_on : ObjNo → List PropId → Held → Held
without_on object ids held = after_each (slot_removed object) ids held

-- with fresh slots on the object, which has this owner
abbrev pub with_fresh : ObjNo → ObjNo → List Origin → Held → Held
with_fresh object owner origins held = after_each (λ origin. slot_put object origin.id (fresh_of owner origin)) origins held

-- on each of these objects, with its owner, without the slots that it loses, and with fresh ones
abbrev pub slots_moved : (ObjNo → List PropId) → List Origin → List (ObjNo × ObjNo) → Held → Held
slots_moved lost gained pairs held =
    after_each (λ pair before. with_fresh pair.0 pair.1 gained (without_on pair.0 (lost pair.0) before)) pairs held

-- ---- keys

-- the keys of the slots of these properties on an object
abbrev pub keys_on : ObjNo → List PropId → List (ObjNo × PropId)
keys_on object ids = map (λ id. (object, id)) ids

-- the keys of slots on each of these objects, of the properties that `ids` has for it
abbrev pub keys_by : (ObjNo → List PropId) → List (ObjNo × ObjNo) → List (ObjNo × PropId)
keys_by ids pairs = flat_map (λ pair. keys_on pair.0 (ids pair.0)) pairs

-- the keys of the slots of these properties on each of these objects
abbrev pub keys_over : List PropId → List (ObjNo × ObjNo) → List (ObjNo × PropId)
keys_over ids pairs = keys_by (λ object. ids) pairs

-- all properties for the object itself, and its own for another
abbrev pub ids_for : ObjNo → List PropId → List PropId → ObjNo → List PropId
ids_for object all own other = if same_object object other then all else own
