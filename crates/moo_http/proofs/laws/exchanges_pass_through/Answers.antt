use Rattle.moo_http.proofs.Passing.{passes_answer, passes_front, passes_fault}
use Rattle.moo_http.proofs.laws.exchanges_pass_through.Goals as goal

pub returns-clause-sent : goal.returns-clause-sent
returns-clause-sent c from to peer judge it exchanged = passes_answer from to peer judge it exchanged

pub returns-clause-lost : goal.returns-clause-lost
returns-clause-lost c from to peer judge unsent it exchanged = passes_front from to peer judge unsent it exchanged

pub returns-clause-failed : goal.returns-clause-failed
returns-clause-failed c fault from to peer judge unsent it exchanged = passes_fault from to peer judge unsent it fault exchanged
