-- What the calls on verbs leave of the directory of an object. A verb is at its place, counted from 0.
-- LambdaMOO Programmer's Manual, 'Operations on Verbs'.
use Rattle.std.specs.{Prelude.{ℕ, zero, suc, ◌+◌, List, [], ◌∷◌, ◌++◌, Option, slice_get}, List.{remove}}
use Rattle.moo_value.specs.declared.value.ObjNo.{ObjNo}
use Rattle.moo_rows.specs.{declared.row.ArgSpec.{ArgSpec}, declared.row.VerbBits.{VerbBits}, declared.row.VerbRow.{VerbRow}}
use Rattle.moo_world.specs.{Objects.{Name}, World.{World, object_changed, directory_of}}

-- the verb at a place of the directory
abbrev pub verb_at : World → ObjNo → ℕ → Option VerbRow
verb_at world object place = slice_get (directory_of world object) place

-- the directory of an object changed
abbrev pub with_verbs : World → ObjNo → (List VerbRow → List VerbRow) → World
with_verbs world object change = object_changed world object (λ entry. record entry { verbs = change entry.verbs })

-- one verb more, the last of the directory
abbrev pub verb_added : World → ObjNo → VerbRow → World
verb_added world object verb = record (with_verbs world object (λ verbs. verbs ++ verb ∷ [])) { next_verb = world.next_verb + 1 }

-- without the verb at a place
abbrev pub verb_removed : World → ObjNo → ℕ → World
verb_removed world object place = with_verbs world object (λ verbs. remove verbs place)

-- the list with the verb at a place changed
abbrev pub changed_at : ℕ → (VerbRow → VerbRow) → List VerbRow → List VerbRow
changed_at place change [] = []
changed_at zero change (verb ∷ verbs) = change verb ∷ verbs
changed_at (suc place) change (verb ∷ verbs) = verb ∷ changed_at place change verbs

-- with the verb at a place changed
abbrev pub verb_changed : World → ObjNo → ℕ → (VerbRow → VerbRow) → World
verb_changed world object place change = with_verbs world object (changed_at place change)

-- the verb at a place with another owner, other rights and other names
abbrev pub verb_info_set : World → ObjNo → ℕ → ObjNo → VerbBits → Name → World
verb_info_set world object place owner bits names =
    verb_changed world object place (λ verb. record verb { owner = owner; bits = bits; names = names })

-- the verb at a place with other arguments
abbrev pub verb_args_set : World → ObjNo → ℕ → ArgSpec → World
verb_args_set world object place args = verb_changed world object place (λ verb. record verb { args = args })
