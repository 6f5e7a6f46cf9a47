-- How the object specifiers and the preposition of a verb are read.
-- From the LambdaMOO Programmer's Manual: 'Verbs on Objects' in the chapter on the database, and 'Operations on Verbs', `add_verb` and
-- `set_verb_args`. The manual doesn't say that words and phrases are read in any case, nor that a preposition ends at its first slash.
use Prim.Native.Char.{code}
use Rattle.std.specs.{Prelude.{ℕ, ◌==◌, Bool, List, [], ◌∷◌, Option, Some, codes, if◌then◌else◌}, Option.{option_map, option_and_then}}
use Rattle.std.specs.List.{find, list_any, before_first, slice_split}
use Rattle.moo_rows.specs.{declared.row.ArgSpec.{ArgSpec}, declared.row.ObjectSpec.{ObjectSpec}}
use Rattle.moo_rows.specs.declared.row.ObjectSpec.TheVariants.{This, Any as any_object, None as no_object}
use Rattle.moo_rows.specs.declared.row.Preposition.{Preposition}
use Rattle.moo_rows.specs.declared.row.Preposition.TheVariants.{None as no_preposition, Any as any_preposition, Set}
use Rattle.moo_rows.specs.declared.row.PrepositionSet.{PrepositionSet}
use Rattle.moo_world.specs.{Objects.{Name}, Prepositions.{set_text, all_sets, object_spec_text}, Matching.{same_name}}

-- the byte is a slash
abbrev pub is_slash : ℕ → Bool
is_slash byte = byte == code "/"

-- the phrases of a set, one by one
abbrev pub phrases : PrepositionSet → List Name
phrases set = slice_split is_slash (set_text set)

-- the phrase is one of the set, in any case
abbrev pub has_phrase : PrepositionSet → Name → Bool
has_phrase set phrase = list_any (λ each. same_name each phrase) (phrases set)

-- the first of these sets that has the phrase
abbrev pub first_with : List PrepositionSet → Name → Option PrepositionSet
first_with sets phrase = find (λ set. has_phrase set phrase) sets

-- `none` and `any` alone, or the set of the phrase before the first slash
abbrev pub prep_of : Name → Option Preposition
prep_of text =
    if same_name text (codes "none") then Some no_preposition
    else (if same_name text (codes "any") then Some any_preposition
    else option_map Set (first_with all_sets (before_first is_slash text)))

-- the object specifier that a text names, in any case
abbrev pub object_spec_of : Name → Option ObjectSpec
object_spec_of text = find (λ spec. same_name text (object_spec_text spec)) (This ∷ any_object ∷ no_object ∷ [])

-- the arguments that three texts name
abbrev pub args_of : Name → Name → Name → Option ArgSpec
args_of dobj prep iobj =
    option_and_then (λ d. option_and_then (λ p. option_map (λ i. record { dobj = d; prep = p; iobj = i }) (object_spec_of iobj))
    (prep_of prep)) (object_spec_of dobj)
