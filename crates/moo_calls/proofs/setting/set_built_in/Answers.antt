use Rattle.moo_calls_shared.specs.Outcomes.{world_in}
use Rattle.moo_world.proofs.Form.Arguments.{change_allowed}
use Rattle.moo_calls.proofs.setting.set_built_in.Goals as goal

pub change_row-requires-clause-allowed : goal.change_row-requires-clause-allowed
change_row-requires-clause-allowed g c = change_allowed (world_in (g.R.Rows.held c.args.rows.now)) c.args.x c.args.field c.args.value.now c.in_ok-change.change c.in_ok-change.ensures.taken c.requires.fit
