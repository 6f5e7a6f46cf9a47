use Rattle.moo_world.proofs.Shown.NumbersKept.{batches_keep_numbers}
use Rattle.moo_world.proofs.laws.numbers_stay.Goals as goal

pub returns : goal.returns
returns c = batches_keep_numbers
