use Rattle.moo_store.proofs.Moving.{stands_somewhere}
use Rattle.moo_store.proofs.laws.every_world_stands.Goals as goal

pub returns : goal.returns
returns g c = stands_somewhere g.S.Store
