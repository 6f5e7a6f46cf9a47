use Rattle.moo_damage.{proofs.Words.{◌≡◌, rules, is_lost}, proofs.Firsts.{least_so}}
use Rattle.moo_damage.proofs.checks.first_lost.Goals as goal

pub returns : goal.returns
returns g c =
    let m = (g.R.Rows.held c.args.rows.now).maps in
    least_so _ _ m.objects _ (λ b _ row. is_lost c.args.link m row ≡ b) (λ b key row says. search rules) c.first_bad.ensures
