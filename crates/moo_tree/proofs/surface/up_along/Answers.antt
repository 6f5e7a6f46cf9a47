use Rattle.moo_tree.{proofs.Words.{arith, look_ups, chain_of_row, chain_of_no_row}, proofs.Climbing.{one_shorter}, proofs.Sharing.{drop_none}}
use Rattle.moo_tree.proofs.surface.up_along.Goals as goal

pub returns-in-None : goal.returns-in-None
returns-in-None g c = grind (arith, chain_of_no_row, drop_none)

pub loop-step-smaller : goal.loop-step-smaller
loop-step-smaller g c = omega (arith, one_shorter (look_ups (g.R.Rows.held c.args.rows.now).maps) c.requires c.loop-step.left c.in-Some.step.now c.in-Some.ensures)

pub loop-step-preserved : goal.loop-step-preserved
loop-step-preserved g c = grind (arith, one_shorter, chain_of_row)

pub returns : goal.returns
returns g c = grind (arith, chain_of_no_row)
