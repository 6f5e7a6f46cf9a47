use Rattle.moo_world.proofs.Ownership.Counted.{create_takes_one, recycle_gives_one}
use Rattle.moo_world.proofs.laws.quotas_hold.Goals as goal

pub returns : goal.returns
returns c = record { create = create_takes_one; recycle = recycle_gives_one }
