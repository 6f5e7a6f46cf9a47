use Rattle.moo_damage.proofs.Clean.{clean}
use Rattle.moo_damage.proofs.laws.good_rows_are_clean.Goals as goal

pub returns : goal.returns
returns c m good = clean m good
