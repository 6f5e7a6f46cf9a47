use Rattle.moo_run.proofs.Words.{refl}
use Rattle.moo_run.proofs.ends.Ends.close.Goals as goal

pub returns-in-Ran : goal.returns-in-Ran
returns-in-Ran g c = rw c.in-Ran.is c.close.ensures.closed

pub returns-in-Refused : goal.returns-in-Refused
returns-in-Refused g c = rw c.in-Refused.is c.close-in-Refused.ensures.closed

pub returns-in-NoFile : goal.returns-in-NoFile
returns-in-NoFile g c = rw c.in-NoFile.is refl
