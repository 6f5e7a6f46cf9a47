use Rattle.moo_http.{proofs.Words.{ap, refl, inl}, proofs.Going.{moves_none}}
use Rattle.moo_http_response.specs.declared.outcome.RequestOutcome.TheVariants as outcome
use Rattle.moo_http.proofs.consult.consult.Goals as goal

pub returns-in-Refused-clause-moves : goal.returns-in-Refused-clause-moves
returns-in-Refused-clause-moves g c = rw c.in-Refused.is (moves_none (λ from at. inl (ap outcome.Refused c.refusal.ensures, refl)))

pub returns-in-Calls-clause-moves : goal.returns-in-Calls-clause-moves
returns-in-Calls-clause-moves g c = rw c.in-Calls.is c.take_batch.ensures.moves

pub returns-in-Each-clause-moves : goal.returns-in-Each-clause-moves
returns-in-Each-clause-moves g c = rw c.in-Each.is (moves_none c.ask_each.ensures.comes)

pub returns-in-Question-clause-moves : goal.returns-in-Question-clause-moves
returns-in-Question-clause-moves g c = rw c.in-Question.is (moves_none c.ask_question.ensures)

pub returns-in-Refused-clause-seen : goal.returns-in-Refused-clause-seen
returns-in-Refused-clause-seen g c = rw c.in-Refused.is tt

pub returns-in-Calls-clause-seen : goal.returns-in-Calls-clause-seen
returns-in-Calls-clause-seen g c = rw c.in-Calls.is c.take_batch.ensures.seen

pub returns-in-Each-clause-seen : goal.returns-in-Each-clause-seen
returns-in-Each-clause-seen g c = rw c.in-Each.is c.ask_each.ensures.seen
