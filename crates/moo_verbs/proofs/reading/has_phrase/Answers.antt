use Rattle.moo_verbs.proofs.Words.{rules, ◌∙◌, any_from_yields_List, same_name, set_text}
use Rattle.moo_verbs.proofs.reading.has_phrase.Goals as goal
use Rattle.std.proofs.lemmas.Iterator.Splits.{YieldsList-from_slice_split}
use Rattle.moo_world.specs.VerbReading.{is_slash}
use borrow.Author.Tests.{tests}

pub returns : goal.returns
returns c =
    any_from_yields_List (λ p. same_name p c.args.phrase.now) _ _ c.any.result c.any.ensures.ran
    (YieldsList-from_slice_split _ is_slash (set_text c.args.set) (c.split.ensures.rest ∙ c.as_bytes.ensures.value ∙ c.set_text.ensures) c.split.ensures.done c.split.ensures.closure (λ x b q k. search (rules, tests)))
    (λ x b q k. search (rules, tests))
