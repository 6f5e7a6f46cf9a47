use Rattle.moo_rows.{proofs.Words.{entries}, proofs.Walking.{past_none}}
use Rattle.moo_rows.proofs.walk.each_row.Goals as goal

pub returns : goal.returns
returns g c = past_none g.V.KeyedRow.order (entries (g.V.KeyedRow.map_of (g.R.Rows.held c.args.rows.now).maps))
