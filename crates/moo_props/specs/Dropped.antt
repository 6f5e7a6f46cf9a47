-- What the end of an object touches, key by key.
use Rattle.std.specs.Prelude.{◌≡◌, Bool, ◌&&◌, ◌||◌, ℕ, ◌+◌, List, [], ◌∷◌, length, map, Option, None, unwrap_or, if◌then◌else◌}
use Rattle.std.specs.{Option.{option_map}, List.{filter}, FinMap.{get, entries}}
use Rattle.moo_value.specs.declared.value.ObjNo.{ObjNo}
use Rattle.moo_rows.specs.{declared.row.ObjRow.{ObjRow}, declared.row.PropId.{PropId}, declared.row.PropRow.{PropRow}}
use Rattle.moo_rows.specs.{declared.row.SlotRow.{SlotRow}, declared.row.VerbId.{VerbId}, declared.row.VerbRow.{VerbRow}}
use Rattle.moo_rows.specs.Maps.{Maps, object_cmp, prop_cmp, slot_cmp, verb_cmp}
use Rattle.moo_world.specs.{Objects.{nothing, same_object, is_among}, World.{chain}, Rows.{world_of}}
use Rattle.moo_props.specs.{Dropping.{released_row, linked_among, verbs_among}, Names.{defines}}
use Rattle.moo_props.specs.{Present.{ArePresent, AreAbsent, AreAscending}, Touched.{props_of}, declared.dropping.Dropped.{Dropped}}

-- the slot goes with the object: it is on it, or it is on a descendant and of a property that the object defines
abbrev pub goes_with : Maps → ObjNo → ObjNo × PropId → Bool
goes_with maps object key = same_object object key.0 || (is_among object (chain (world_of maps) key.0) && defines maps object key.1)

-- the keys of the slots that go, ascending
abbrev pub dropped_keys : Maps → ObjNo → List (ObjNo × PropId)
dropped_keys maps object = map (λ pair. pair.0) (filter (λ pair. goes_with maps object pair.0) (entries maps.slots))

-- ---- the rows that are left

-- the slot of a key, unless it goes with the object
abbrev pub slot_left : Maps → ObjNo → ObjNo × PropId → Option SlotRow
slot_left maps object key = if goes_with maps object key then None else get maps.slots key

-- the row of a property, unless the object defines it
abbrev pub prop_left : Maps → ObjNo → PropId → Option PropRow
prop_left maps object id = if defines maps object id then None else get maps.props id

-- the verb of a key, unless it is on the object
abbrev pub verb_left : Maps → ObjNo → ObjNo × VerbId → Option VerbRow
verb_left maps object key = if same_object object key.0 then None else get maps.verbs key

-- the parent that the children of the object get
abbrev pub heir : Maps → ObjNo → ObjNo
heir maps object = unwrap_or (option_map (λ row. row.parent) (get maps.objects object)) nothing

-- the object is gone; in another's row it is replaced as parent by its own parent, and as location by nothing
abbrev pub row_left : Maps → ObjNo → ObjNo → Option ObjRow
row_left maps object other =
    if same_object object other then None else option_map (released_row object (heir maps object)) (get maps.objects other)

-- ---- what an object that ends leaves

-- What is listed is what goes with the object, and the objects that were linked to it, each list ascending. Each slot that is listed was
-- there.
pub record ListsDropped (old : Maps) (object : ObjNo) (dropped : Dropped) : Type 0 where
  pub removed : dropped.removed ≡ dropped_keys old object
  pub props : dropped.props ≡ props_of (object ∷ []) old.props
  pub verbs : dropped.verbs ≡ verbs_among object (entries old.verbs)
  pub relinked : dropped.relinked ≡ linked_among object (entries old.objects)
  pub removed_order : AreAscending slot_cmp dropped.removed
  pub props_order : AreAscending prop_cmp dropped.props
  pub verbs_order : AreAscending verb_cmp dropped.verbs
  pub relinked_order : AreAscending object_cmp dropped.relinked
  pub had : ArePresent old.slots (dropped_keys old object)

-- The slots that go are gone, the objects that were linked to the object are still there, and each row is the one that its end leaves.
pub record LeavesDropped (old : Maps) (object : ObjNo) (new : Maps) : Type 0 where
  pub gone : AreAbsent new.slots (dropped_keys old object)
  pub stay : ArePresent new.objects (linked_among object (entries old.objects))
  pub slots_left : (key : ObjNo × PropId) → get new.slots key ≡ slot_left old object key
  pub props_left : (id : PropId) → get new.props id ≡ prop_left old object id
  pub verbs_left : (key : ObjNo × VerbId) → get new.verbs key ≡ verb_left old object key
  pub objects_left : (other : ObjNo) → get new.objects other ≡ row_left old object other
  pub head : new.head ≡ old.head

-- how many rows are listed
abbrev pub rows_dropped : Dropped → ℕ
rows_dropped dropped = length dropped.removed + length dropped.props + length dropped.verbs + length dropped.relinked
