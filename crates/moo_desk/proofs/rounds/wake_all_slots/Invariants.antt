use Rattle.std.specs.Prelude.{⊤}
use Rattle.moo_desk.{specs.Rounds.{IsWokenFor}, proofs.Onward.{EachSoFar}}
use Rattle.moo_desk.proofs.rounds.wake_all_slots.Given as goal

abbrev pub invariant-loop-slot : goal.invariant-loop-slot
invariant-loop-slot g l = EachSoFar (IsWokenFor (λ _. ⊤)) l.slot-index l.fn.slots l.slot-items
