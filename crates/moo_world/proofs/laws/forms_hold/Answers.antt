use Rattle.moo_world.{proofs.Form.Calls.{calls_keep_form}, proofs.Form.Petitions.{requests_keep_form}, proofs.Form.Runs.{runs_keep_form}}
use Rattle.moo_world.proofs.laws.forms_hold.Goals as goal

pub returns : goal.returns
returns c = record { calls = calls_keep_form; requests = requests_keep_form; runs = runs_keep_form }
