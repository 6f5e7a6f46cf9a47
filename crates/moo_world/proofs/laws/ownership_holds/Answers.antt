use Rattle.moo_world.{proofs.Form.Calls.{no_wizard_keeps_ownership}, proofs.Ownership.Petitions.{petitions_leave_the_world}}
use Rattle.moo_world.proofs.laws.ownership_holds.Goals as goal

pub returns : goal.returns
returns c = record { calls = no_wizard_keeps_ownership; petitions = petitions_leave_the_world }
