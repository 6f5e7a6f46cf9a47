use Rattle.moo_verbs.proofs.TableLaw.{phrases_are_read}
use Rattle.moo_verbs.proofs.laws.phrases_hold.Goals as goal

pub returns : goal.returns
returns c = phrases_are_read
