use Rattle.moo_http.proofs.Going.{moves_none}
use Rattle.moo_http.proofs.consult.take_batch.Goals as goal

pub returns-in-Run-clause-moves : goal.returns-in-Run-clause-moves
returns-in-Run-clause-moves g c = rw c.in-Run.is c.run_batch.ensures.moves

pub returns-in-Ask-clause-moves : goal.returns-in-Ask-clause-moves
returns-in-Ask-clause-moves g c = rw c.in-Ask.is (moves_none c.ask_batch.ensures.comes)

pub returns-in-Run-clause-seen : goal.returns-in-Run-clause-seen
returns-in-Run-clause-seen g c = rw c.in-Run.is c.run_batch.ensures.seen

pub returns-in-Ask-clause-seen : goal.returns-in-Ask-clause-seen
returns-in-Ask-clause-seen g c = rw c.in-Ask.is c.ask_batch.ensures.seen
