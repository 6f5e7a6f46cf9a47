use Rattle.std.{proofs.Common.{arith}, specs.Prelude.{⊤}}
use Rattle.moo_desk.{specs.Rounds.{IsWokenFor}, proofs.Onward.{each_then, each_all}}
use Rattle.moo_desk.proofs.rounds.wake_all_slots.Goals as goal

pub loop-slot-preserved : goal.loop-slot-preserved
loop-slot-preserved g c =
    each_then (IsWokenFor (λ _. ⊤)) c.loop-slot.slot-index c.args.slots.now c.loop-slot.slot-items c.slot-item.result c.wake.new.self (omega (arith, c.loop-slot-test.true, c.loop-slot.auto.slot-items)) c.loop-slot.invariant (c.wake.ensures.same, λ _. c.wake.ensures.due)

pub returns : goal.returns
returns g c = each_all (IsWokenFor (λ _. ⊤)) c.loop-slot.slot-index c.args.slots.now c.loop-slot.slot-items (omega (arith, c.loop-slot-test.false, c.loop-slot.auto.slot-items)) c.loop-slot.invariant
