use Rattle.moo_damage.{proofs.Words.{arith, rules}, specs.Differences.{IsUnlike}, proofs.Firsts.{least_so}}
use Rattle.moo_damage.proofs.differences.first_unlike.Goals as goal

pub returns : goal.returns
returns g c =
    least_so _ _ (g.T.KeyedRow.map_of (g.R.Rows.held c.args.rows.now).maps) _ (IsUnlike (g.T.KeyedRow.map_of (g.R.Rows.held c.args.there.now).maps)) (λ b key row says. search rules) c.first_bad.ensures
