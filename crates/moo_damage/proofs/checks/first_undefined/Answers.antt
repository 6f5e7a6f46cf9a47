use Rattle.moo_damage.{proofs.Words.{◌≡◌, rules, lacks_definer}, proofs.Firsts.{least_so}}
use Rattle.moo_damage.proofs.checks.first_undefined.Goals as goal

pub returns : goal.returns
returns g c =
    let m = (g.R.Rows.held c.args.rows.now).maps in
    least_so _ _ m.props _ (λ b _ row. lacks_definer m row ≡ b) (λ b key row says. search rules) c.first_bad.ensures
