use Rattle.moo_world.proofs.Words.{folded, spelled_is}
use Rattle.moo_world.proofs.name.CallName.read.Goals as goal

pub returns-clause-one : goal.returns-clause-one
returns-clause-one c name = rw c.first_spelled.ensures (spelled_is (folded c.args.bytes.now) name)
