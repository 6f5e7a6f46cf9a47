use Rattle.moo_load.proofs.One.Told.{told}
use Rattle.moo_load.proofs.laws.one_state.Goals as goal

pub returns : goal.returns
returns c = told
