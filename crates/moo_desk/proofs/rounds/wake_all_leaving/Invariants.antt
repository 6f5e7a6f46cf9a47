use Rattle.std.specs.Prelude.{⊤}
use Rattle.moo_desk.{specs.Rounds.{IsAnswerWokenFor}, proofs.Onward.{EachSoFar}}
use Rattle.moo_desk.proofs.rounds.wake_all_leaving.Given as goal

abbrev pub invariant-loop-connection : goal.invariant-loop-connection
invariant-loop-connection g l = EachSoFar (IsAnswerWokenFor (λ _. ⊤)) l.connection-index l.fn.leaving l.connection-items
