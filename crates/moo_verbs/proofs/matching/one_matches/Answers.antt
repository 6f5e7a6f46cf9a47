use Rattle.moo_verbs.proofs.Words.{rules, not, any_from_yields_List, YieldsList-from_filter, YieldsList-at, is_space, is_empty, matches}
use Rattle.moo_verbs.proofs.matching.one_matches.Goals as goal
use Rattle.std.proofs.lemmas.Iterator.Splits.{YieldsList-from_slice_split}
use borrow.Author.Tests.{tests}

pub returns : goal.returns
returns c =
    any_from_yields_List (λ name. matches name c.args.word.now) _ _ c.any.result c.any.ensures.ran
    (YieldsList-from_filter _ (λ name. not (is_empty name))
    (YieldsList-at c.filter.ensures.source (YieldsList-from_slice_split _ is_space c.args.names.now c.split.ensures.rest c.split.ensures.done c.split.ensures.closure (λ x b q k. search (rules, tests))))
    c.filter.ensures.closure (λ x b q k. search (rules, tests)))
    (λ x b q k. search (rules, tests))
