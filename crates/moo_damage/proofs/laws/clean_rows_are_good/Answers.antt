use Rattle.moo_damage.proofs.Good.{good}
use Rattle.moo_damage.proofs.laws.clean_rows_are_good.Goals as goal

pub returns : goal.returns
returns c m within clean = good m within clean
