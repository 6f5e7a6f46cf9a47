use Rattle.moo_damage.{proofs.Words.{◌≡◌, rules}, proofs.Firsts.{least_so}}
use Rattle.moo_damage.proofs.checks.first_past.Goals as goal

pub returns : goal.returns
returns g c =
    let m = (g.R.Rows.held c.args.rows.now).maps in
    least_so _ _ (g.T.KeyedRow.map_of m) _ (λ b key _. g.T.NumberedRow.is_past m.head key ≡ b) (λ b key row says. search rules) c.first_bad.ensures
