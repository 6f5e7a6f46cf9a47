use Rattle.moo_damage.proofs.Locally.{slots_hold}
use Rattle.moo_damage.proofs.laws.local_slots_hold.Goals as goal

pub returns : goal.returns
returns c m t h = slots_hold m t h
