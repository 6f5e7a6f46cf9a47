use Rattle.moo_verbs.{proofs.Words.{rules, sym, ap, ◌∙◌, option_map, YieldsList-from_first, find_from_yields_List, verbs_of_left, one_matches}, proofs.Entries.{Entry}, proofs.Found.{walk, id_of}}
use Rattle.moo_verbs.proofs.find.verb_named.Goals as goal
use borrow.Author.Tests.{tests}

pub returns-in-None : goal.returns-in-None
returns-in-None g c =
    ap (λ o. option_map id_of (option_map (λ p. (p.0, p.1.now)) o)) (sym c.in-None.is)
    ∙ ap (option_map id_of) (find_from_yields_List (λ (e : Entry). one_matches e.1.names c.args.word.now) c.find.new.self _ c.find.result c.find.ensures.ran (YieldsList-from_first (λ p. (p.0, p.1.now)) (λ s. verbs_of_left s.object s.last (g.R.Rows.held s.rows.now).maps) (walk (g.R.Rows.held c.args.rows.now).maps c.args.x) c.each_verb_of.ensures) (λ x b q k. search (rules, tests)))

pub returns-in-Some : goal.returns-in-Some
returns-in-Some g c =
    ap (λ o. option_map id_of (option_map (λ p. (p.0, p.1.now)) o)) (sym c.in-Some.is)
    ∙ ap (option_map id_of) (find_from_yields_List (λ (e : Entry). one_matches e.1.names c.args.word.now) c.find.new.self _ c.find.result c.find.ensures.ran (YieldsList-from_first (λ p. (p.0, p.1.now)) (λ s. verbs_of_left s.object s.last (g.R.Rows.held s.rows.now).maps) (walk (g.R.Rows.held c.args.rows.now).maps c.args.x) c.each_verb_of.ensures) (λ x b q k. search (rules, tests)))
