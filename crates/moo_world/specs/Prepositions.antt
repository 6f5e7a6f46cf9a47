-- The prepositions that a verb may ask for: fifteen sets of phrases that stand for one another.
-- LambdaMOO Programmer's Manual, 'Verbs on Objects' in the chapter on the database.
use Rattle.std.specs.Prelude.{ℕ, List, [], ◌∷◌, codes}
use Rattle.moo_rows.specs.declared.row.ObjectSpec.{ObjectSpec}
use Rattle.moo_rows.specs.declared.row.ObjectSpec.TheVariants.{This, Any as any_object, None as no_object}
use Rattle.moo_rows.specs.declared.row.Preposition.{Preposition}
use Rattle.moo_rows.specs.declared.row.Preposition.TheVariants.{None as no_preposition, Any as any_preposition, Set}
use Rattle.moo_rows.specs.declared.row.PrepositionSet.{PrepositionSet}
use Rattle.moo_rows.specs.declared.row.PrepositionSet.TheVariants.{With, At, InFrontOf, In, OnTopOf, OutOf, Over}
use Rattle.moo_rows.specs.declared.row.PrepositionSet.TheVariants.{Through, Under, Behind, Beside, For, Is, As, Off}

-- the phrases of a set, with slashes between them
abbrev pub set_text : PrepositionSet → List ℕ
set_text With = codes "with/using"
set_text At = codes "at/to"
set_text InFrontOf = codes "in front of"
set_text In = codes "in/inside/into"
set_text OnTopOf = codes "on top of/on/onto/upon"
set_text OutOf = codes "out of/from inside/from"
set_text Over = codes "over"
set_text Through = codes "through"
set_text Under = codes "under/underneath/beneath"
set_text Behind = codes "behind"
set_text Beside = codes "beside"
set_text For = codes "for/about"
set_text Is = codes "is"
set_text As = codes "as"
set_text Off = codes "off/off of"

-- every set
abbrev pub all_sets : List PrepositionSet
all_sets = With ∷ At ∷ InFrontOf ∷ In ∷ OnTopOf ∷ OutOf ∷ Over ∷ Through ∷ Under ∷ Behind ∷ Beside ∷ For ∷ Is ∷ As ∷ Off ∷ []

-- how a preposition is written: none, any, or the phrases of its set
abbrev pub prep_text : Preposition → List ℕ
prep_text no_preposition = codes "none"
prep_text any_preposition = codes "any"
prep_text (Set set) = set_text set

-- how an object specifier is written
abbrev pub object_spec_text : ObjectSpec → List ℕ
object_spec_text This = codes "this"
object_spec_text any_object = codes "any"
object_spec_text no_object = codes "none"
