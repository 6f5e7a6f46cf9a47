-- Where a verb of the rows is in the directory of its object.
use Rattle.std.specs.{Prelude.{ℕ, Bool, length, is_some}, FinMap.{get}, List.{filter_map}}
use Rattle.moo_value.specs.declared.value.ObjNo.{ObjNo}
use Rattle.moo_rows.specs.{declared.row.VerbId.{VerbId}, Maps.{Maps}}
use Rattle.moo_world.specs.Rows.{LookUps, look_ups, numbers_below}

-- the object has a verb of the number
abbrev pub has_verb : Maps → ObjNo → VerbId → Bool
has_verb maps object id = is_some (get maps.verbs (object, id))

-- how many verbs of the object have a number below this one
abbrev pub verbs_before : LookUps → ObjNo → ℕ → ℕ
verbs_before rows object id = length (filter_map (rows.verb object) (numbers_below id))

-- the place of a verb in the directory of its object, from 0
abbrev pub verb_place : Maps → ObjNo → VerbId → ℕ
verb_place maps object id = verbs_before (look_ups maps) object id.0
