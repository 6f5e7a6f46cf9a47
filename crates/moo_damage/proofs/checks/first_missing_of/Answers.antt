use Rattle.moo_damage.{proofs.Words.{◌≡◌, rules, is_missing}, proofs.Firsts.{least_so}}
use Rattle.moo_damage.proofs.checks.first_missing_of.Goals as goal

pub returns : goal.returns
returns g c =
    let m = (g.R.Rows.held c.args.rows.now).maps in
    least_so _ _ m.props _ (λ b k _. is_missing m (c.args.x, k) ≡ b) (λ b k r says. search rules) c.first_bad.ensures
