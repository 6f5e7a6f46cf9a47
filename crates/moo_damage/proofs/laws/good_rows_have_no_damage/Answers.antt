use Rattle.moo_damage.{proofs.Clean.{clean}, proofs.Told.{none_told}}
use Rattle.moo_damage.proofs.laws.good_rows_have_no_damage.Goals as goal

pub returns : goal.returns
returns c m g = none_told m (clean m g)
