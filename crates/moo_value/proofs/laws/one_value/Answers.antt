use Rattle.moo_value.proofs.Printed.{one_spelled}
use Rattle.moo_value.proofs.laws.one_value.Goals as goal

pub returns : goal.returns
returns c = one_spelled
