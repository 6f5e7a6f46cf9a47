use Rattle.moo_verbs.{proofs.Words.{sym, ap, ◌∙◌, option_map, nth_from_yields_List, YieldsList-from_first, verbs_of_left}, proofs.Found.{walk, id_of}}
use Rattle.moo_verbs.proofs.find.verb_after.Goals as goal

pub returns-in-None : goal.returns-in-None
returns-in-None g c =
    ap (λ o. option_map id_of (option_map (λ p. (p.0, p.1.now)) o)) (sym c.in-None.is)
    ∙ ap (option_map id_of) (nth_from_yields_List c.nth.result c.nth.new.self c.args.count c.nth.ensures.ran (YieldsList-from_first (λ p. (p.0, p.1.now)) (λ s. verbs_of_left s.object s.last (g.R.Rows.held s.rows.now).maps) (walk (g.R.Rows.held c.args.rows.now).maps c.args.x) c.each_verb_of.ensures))

pub returns-in-Some : goal.returns-in-Some
returns-in-Some g c =
    ap (λ o. option_map id_of (option_map (λ p. (p.0, p.1.now)) o)) (sym c.in-Some.is)
    ∙ ap (option_map id_of) (nth_from_yields_List c.nth.result c.nth.new.self c.args.count c.nth.ensures.ran (YieldsList-from_first (λ p. (p.0, p.1.now)) (λ s. verbs_of_left s.object s.last (g.R.Rows.held s.rows.now).maps) (walk (g.R.Rows.held c.args.rows.now).maps c.args.x) c.each_verb_of.ensures))
