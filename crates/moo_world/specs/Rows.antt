-- The world that rows show. The rows are seen by what a look-up of each map answers, and the counters.
use Rattle.std.specs.Prelude.{◌≡◌, ℕ, zero, suc, ◌<◌, ◌==◌, ◌&&◌, true, List, [], ◌∷◌, ◌++◌, Option, Some, None, is_some, slice_get}
use Rattle.std.specs.{Prelude.{if◌then◌else◌}, Option.{option_map, option_and_then}, List.{filter_map}, FinMap.{get}}
use Rattle.moo_value.specs.declared.value.ObjNo.{ObjNo}
use Rattle.moo_rows.specs.{declared.row.ObjRow.{ObjRow}, declared.row.PropRow.{PropRow}, declared.row.SlotRow.{SlotRow}}
use Rattle.moo_rows.specs.{declared.row.VerbRow.{VerbRow}, declared.row.Head.{Head}, declared.row.PropId.{PropId}}
use Rattle.moo_rows.specs.{declared.row.VerbId.{VerbId}, Maps.{Maps}}
use Rattle.moo_world.specs.{Objects.{Name, same_object, same_text, folded}, Petitions.{PetitionsStand}}
use Rattle.moo_world.specs.World.{World, WorldObject, Slot, IsWellFormed}

-- the counters, and what a look-up of each map answers
pub record LookUps : Type 0 where
  pub head : Head
  pub object : ObjNo → Option ObjRow
  pub prop : ℕ → Option PropRow
  pub slot : ObjNo → ℕ → Option SlotRow
  pub verb : ObjNo → ℕ → Option VerbRow

-- the numbers below another, ascending
abbrev pub numbers_below : ℕ → List ℕ
numbers_below zero = []
numbers_below (suc number) = numbers_below number ++ number ∷ []

-- the name of a property, if the object defines it
abbrev pub name_on : LookUps → ObjNo → ℕ → Option Name
name_on rows object id =
    option_and_then (λ property. if same_object property.definer object then Some property.name else None) (rows.prop id)

-- the slot that a row shows, of a property of this definer
abbrev pub slot_seen : ObjNo → SlotRow → Slot
slot_seen definer slot = record { definer = definer; owner = slot.owner; bits = slot.bits; state = slot.state }

-- the slot on the object of a property, if this is its folded name
abbrev pub slot_on : LookUps → ObjNo → Name → ℕ → Option Slot
slot_on rows object name id =
    option_and_then (λ property. if same_text (folded property.name) name
    then option_map (slot_seen property.definer) (rows.slot object id) else None) (rows.prop id)

-- the object of a row: its definitions by ascending property number, its verbs by ascending verb number
abbrev pub object_shown : LookUps → ObjNo → ObjRow → WorldObject
object_shown rows object row = record {
  row = row;
  defines = filter_map (name_on rows object) (numbers_below rows.head.next_prop);
  slot = λ name. slice_get (filter_map (slot_on rows object name) (numbers_below rows.head.next_prop)) 0;
  verbs = filter_map (rows.verb object) (numbers_below rows.head.next_verb);
}

-- the world that look-ups show
unfoldable pub world_shown : LookUps → World
world_shown rows = record {
  object = λ object. option_map (object_shown rows object) (rows.object object);
  top = rows.head.top;
  next_prop = rows.head.next_prop;
  next_verb = rows.head.next_verb;
}

-- each number is below its counter, what a row names is there, and no object has two slots of one name
pub record AreSound (rows : LookUps) : Type 0 where
  pub props_below : (id : ℕ) → is_some (rows.prop id) ≡ true → (0 < id) × (id < rows.head.next_prop)
  pub definers : (id : ℕ) (property : PropRow) → rows.prop id ≡ Some property → is_some (rows.object property.definer) ≡ true
  pub slots : (object : ObjNo) (id : ℕ) → is_some (rows.slot object id) ≡ true → (is_some (rows.object object) ≡ true)
      × (is_some (rows.prop id) ≡ true)
  pub one_name : (object : ObjNo) (first second : ℕ) (p q : PropRow) → is_some (rows.slot object first) ≡ true →
      is_some (rows.slot object second) ≡ true → rows.prop first ≡ Some p → rows.prop second ≡ Some q → folded p.name ≡ folded q.name →
      first ≡ second
  pub verbs : (object : ObjNo) (id : ℕ) → is_some (rows.verb object id) ≡ true → (is_some (rows.object object) ≡ true) × (0 < id)
      × (id < rows.head.next_verb)

-- ---- maps

-- the property of a number
abbrev pub prop_id : ℕ → PropId
prop_id number = record { 0 = number }

-- the verb of a number
abbrev pub verb_id : ℕ → VerbId
verb_id number = record { 0 = number }

-- what the look-ups of maps answer
abbrev pub look_ups : Maps → LookUps
look_ups rows = record {
  head = rows.head;
  object = λ object. get rows.objects object;
  prop = λ id. get rows.props (prop_id id);
  slot = λ object id. get rows.slots (object, prop_id id);
  verb = λ object id. get rows.verbs (object, verb_id id);
}

-- the world that maps show
abbrev pub world_of : Maps → World
world_of rows = world_shown (look_ups rows)

-- the rows of these maps are sound
abbrev pub IsSound : Maps → Type 0
IsSound rows = AreSound (look_ups rows)

-- sound rows of a well formed world, and petitions as they may be beside it
pub record IsGood (rows : Maps) : Type 0 where
  pub sound : IsSound rows
  pub formed : IsWellFormed (world_of rows)
  pub petitions : PetitionsStand rows.petitions rows.head.next_petition

-- ---- rows with one row put or removed

-- with a row put for an object
abbrev pub with_object_row : LookUps → ObjNo → ObjRow → LookUps
with_object_row rows object row = record rows { object = λ other. if same_object object other then Some row else rows.object other }

-- with a row put for the slot of a property on an object
abbrev pub with_slot_row : LookUps → ObjNo → ℕ → SlotRow → LookUps
with_slot_row rows object id row =
    record rows { slot = λ other other_id. if same_object object other && (id == other_id) then Some row else rows.slot other other_id }

-- with the row removed of the slot of a property on an object
abbrev pub less_slot : LookUps → ObjNo → ℕ → LookUps
less_slot rows object id =
    record rows { slot = λ other other_id. if same_object object other && (id == other_id) then None else rows.slot other other_id }
