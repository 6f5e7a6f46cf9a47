-- How a verb is named: by a number from 1 on, or by a word that one of its names matches. Both give its place among the verbs of the
-- object, counted from 0.
-- From the LambdaMOO Programmer's Manual: 'Operations on Verbs'. The manual doesn't say which verb a word means if several match: here, as
-- in LambdaMOO 1.8, the first of the object itself. That 0 and a number below it are E_VERBNF is this server's own.
use Rattle.std.specs.{Prelude.{ℕ, suc, ℤ, pos, nat_lt, length, Option, None, Some, if◌then◌else◌}, Option.{option_map, option_and_then}}
use Rattle.std.specs.List.{position}
use Rattle.moo_value.specs.declared.value.ObjNo.{ObjNo}
use Rattle.moo_rows.specs.declared.row.VerbRow.{VerbRow}
use Rattle.moo_world.specs.{declared.descriptor.Desc.{Desc}, declared.descriptor.Desc.TheVariants.{Index, Name as a_word}}
use Rattle.moo_world.specs.{World.{World, directory_of}, Directories.{verb_at}, Matching.{one_matches}}

-- the place that a number from 1 on stands for
abbrev pub place_numbered : ℤ → Option ℕ
place_numbered (pos (suc place)) = Some place
place_numbered number = None

-- the place, if the object has a verb there
abbrev pub place_within : World → ObjNo → ℕ → Option ℕ
place_within world object place = if nat_lt place (length (directory_of world object)) then Some place else None

-- the place of the verb that a descriptor names
abbrev pub described : World → ObjNo → Desc → Option ℕ
described world object (Index number) = option_and_then (place_within world object) (place_numbered number)
described world object (a_word word) = position (λ verb. one_matches verb.names word) (directory_of world object)

-- the verb that a descriptor names, with its place
abbrev pub found_verb : World → ObjNo → Desc → Option (ℕ × VerbRow)
found_verb world object desc =
    option_and_then (λ place. option_map (λ verb. (place, verb)) (verb_at world object place)) (described world object desc)
