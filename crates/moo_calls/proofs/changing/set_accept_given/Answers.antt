use Rattle.moo_world.proofs.Form.Arguments.{accept_list_numbered}
use Rattle.moo_calls.proofs.changing.set_accept_given.Goals as goal

pub set_accept-requires-clause-numbers : goal.set_accept-requires-clause-numbers
set_accept-requires-clause-numbers g c = accept_list_numbered c.args.args.now _ c.in_ok-x.ensures.given c.requires.fit
