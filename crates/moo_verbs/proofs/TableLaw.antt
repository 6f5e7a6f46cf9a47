-- What holds of the whole table of prepositions, by computing it.
use Rattle.moo_verbs.{proofs.Words.{arith, ◌≡◌, Some, refl, ap, ◌∙◌, Name, same_text, folded, prep_text}, specs.Laws.{PhrasesAreRead}}
use Rattle.moo_rows.{specs.declared.row.Preposition.{Preposition}, specs.declared.row.Preposition.TheVariants.{None as no_preposition, Any as any_preposition, Set}, specs.declared.row.PrepositionSet.TheVariants.{With}}
use Rattle.moo_world.specs.VerbReading.{prep_of}

-- each text is read as what it is the text of
pub prep_read_again : (prep : Preposition) → prep_of (prep_text prep) ≡ Some prep
unfolding same_text folded
prep_read_again no_preposition = refl
prep_read_again any_preposition = refl
prep_read_again (Set With) = refl
prep_read_again (Set _) = refl

pub prep_reads : (text : Name) (prep : Preposition) → text ≡ prep_text prep → prep_of text ≡ Some prep
prep_reads text prep e = ap prep_of e ∙ prep_read_again prep

pub phrases_are_read : PhrasesAreRead
unfolding same_text folded
phrases_are_read h = grind arith
