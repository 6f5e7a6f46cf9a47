use Rattle.moo_damage.{proofs.Words.{◌≡◌, rules, is_strange_verb}, proofs.Firsts.{least_so}}
use Rattle.moo_damage.proofs.checks.first_strange_verb.Goals as goal

pub returns : goal.returns
returns g c =
    let m = (g.R.Rows.held c.args.rows.now).maps in
    least_so _ _ m.verbs _ (λ b key _. is_strange_verb m key ≡ b) (λ b key row says. search rules) c.first_bad.ensures
