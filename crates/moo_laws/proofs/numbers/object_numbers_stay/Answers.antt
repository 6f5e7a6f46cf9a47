use Rattle.moo_laws.proofs.Numbered.{object_numbers_stay}
use Rattle.moo_laws.proofs.numbers.object_numbers_stay.Goals as goal

pub returns : goal.returns
returns c = object_numbers_stay
