use Rattle.moo_world.proofs.Form.Petitions.{held_args_fit}
use Rattle.moo_batch.proofs.granting.run_petitioned_call.Goals as goal

pub step_named-requires-clause-fit : goal.step_named-requires-clause-fit
step_named-requires-clause-fit g c = held_args_fit c.args.held.now (record { name = c.in-Some.name; args = c.in-Some.args.now }) c.in-Some.ensures.some c.requires.fit
