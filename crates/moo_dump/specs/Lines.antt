-- The lines of objects and of petitions, by the rows that they are printed from.
use Rattle.std.specs.{Prelude.{◌≡◌, ◌<◌, ℕ, length, List, [], Option, Some, None, map, unwrap_or}, BTreeMap.{BTreeMap, get as tree_get}}
use Rattle.std.specs.{FinMap.{get, entries}, List.{filter, flat_map}, Option.{option_map}, Global.{Vec}}
use Rattle.moo_value.specs.declared.value.ObjNo.{ObjNo}
use Rattle.moo_rows.specs.{declared.row.PropId.{PropId}, declared.row.PropRow.{PropRow}, declared.row.SlotRow.{SlotRow}}
use Rattle.moo_rows.specs.Maps.{Maps, object_cmp}
use Rattle.moo_dump.specs.Dump.{property_line, slot_line, object_lines, petition_line}
use Rattle.moo_world.specs.{ObjectLists.{objects_of}, Objects.{same_object}, Rows.{slot_seen, world_of}, World.{chain}}

-- the numbers of the properties that d defines, of some properties
abbrev pub ids_defined_by : ObjNo → List (PropId × PropRow) → List PropId
ids_defined_by d es = map (λ e. e.0) (filter (λ e. same_object e.1.definer d) es)

-- the properties that an object defines, in ascending number
abbrev pub ids_defined : Maps → ObjNo → List PropId
ids_defined t d = ids_defined_by d (entries t.props)

-- what a map of lists has for an object
abbrev pub ids_listed : BTreeMap ObjNo (Vec PropId) → ObjNo → List PropId
ids_listed ids d = unwrap_or (option_map (λ v. v.items) (tree_get object_cmp ids d)) []

-- the line of the property of a number, which x defines; nothing if no property has the number
abbrev pub property_line_of : Maps → ObjNo → PropId → List ℕ
property_line_of t x id = elim (get t.props id) [ None ↦ [] | Some p ↦ property_line x p.name ]

-- the line of a slot on x, from the row of its property and its own; nothing without one of them
abbrev pub slot_line_by : ObjNo → Option PropRow → Option SlotRow → List ℕ
slot_line_by x (Some p) (Some s) = slot_line x (p.definer, p.name) (slot_seen p.definer s)
slot_line_by x _ _ = []

-- the line of the slot on x of the property of a number; nothing if x has no such slot
abbrev pub slot_line_of : Maps → ObjNo → PropId → List ℕ
slot_line_of t x id = slot_line_by x (get t.props id) (get t.slots (x, id))

-- the lines of the slots on x of the properties that some objects define, by these objects in order
abbrev pub slot_lines_over : Maps → ObjNo → List ObjNo → List ℕ
slot_lines_over t x l = flat_map (λ d. flat_map (slot_line_of t x) (ids_defined t d)) l

-- the map has what each object defines
abbrev pub ListsDefinitions : Maps → BTreeMap ObjNo (Vec PropId) → Type 0
ListsDefinitions t ids = (d : ObjNo) → ids_listed ids d ≡ ids_defined t d

-- y is further up than x, and what objects define on the way from x to y, y not counted, has no lines of slots
pub record LeadsUp (t : Maps) (x y : ObjNo) : Type 0 where
  pub nearer : length (chain (world_of t) y) < length (chain (world_of t) x)
  pub same : (z : ObjNo) → slot_lines_over t z (chain (world_of t) x) ≡ slot_lines_over t z (chain (world_of t) y)

-- each entry leads up
abbrev pub SkipUp : Maps → BTreeMap ObjNo ObjNo → Type 0
SkipUp t skips = (x y : ObjNo) → tree_get object_cmp skips x ≡ Some y → LeadsUp t x y

-- the lines of the objects, ascending
abbrev pub objects_text : Maps → List ℕ
objects_text t = flat_map (object_lines (world_of t)) (objects_of (world_of t))

-- the lines of the petitions, ascending
abbrev pub petitions_text : Maps → List ℕ
petitions_text t = flat_map petition_line (entries t.petitions)
