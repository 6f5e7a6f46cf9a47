use Rattle.std.specs.Prelude.{◌≡◌}
use Rattle.moo_desk.{specs.Rounds.{IsAnswerWokenFor}, proofs.Onward.{EachSoFar}}
use Rattle.moo_desk.proofs.rounds.wake_leaving.Given as goal

abbrev pub invariant-loop-connection : goal.invariant-loop-connection
invariant-loop-connection g l = EachSoFar (IsAnswerWokenFor (λ it. it ≡ l.fn.mark)) l.connection-index l.fn.leaving l.connection-items
