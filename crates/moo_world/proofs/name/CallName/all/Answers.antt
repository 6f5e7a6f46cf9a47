use Rattle.moo_world.specs.Names.{spelled_alike_is}
use Rattle.moo_world.proofs.name.CallName.all.Goals as goal

pub returns-clause-once : goal.returns-clause-once
returns-clause-once c name = spelled_alike_is name
