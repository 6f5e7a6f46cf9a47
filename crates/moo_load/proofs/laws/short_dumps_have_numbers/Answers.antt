use Rattle.moo_load.proofs.Shown.Counts.{has_numbers}
use Rattle.moo_load.proofs.laws.short_dumps_have_numbers.Goals as goal

pub returns : goal.returns
returns c = has_numbers
