use Rattle.moo_http.proofs.Defined.{defined}
use Rattle.moo_http.proofs.laws.answers_are_defined.Goals as goal

pub returns : goal.returns
returns c m asked o to answers other = defined m asked o to answers other
