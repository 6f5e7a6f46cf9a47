use Rattle.moo_tree.proofs.Words.{length, ap, append_assoc, append-nil, arith, chain_of_row, chain_of_no_row, look_ups}
use Rattle.moo_tree.proofs.ancestors.chain.Goals as goal

pub loop-row-smaller : goal.loop-row-smaller
loop-row-smaller g c = omega (arith, ap length (chain_of_row (look_ups (g.R.Rows.held c.args.rows.now).maps) c.requires c.loop-row.at c.in-Some.row.now c.in-Some.ensures))

pub loop-row-preserved : goal.loop-row-preserved
loop-row-preserved g c = grind (arith, chain_of_row, append_assoc)

pub returns : goal.returns
returns g c = grind (arith, chain_of_no_row, append-nil)
