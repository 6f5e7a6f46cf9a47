use Rattle.std.proofs.Common.{◌≡◌, arith}
use Rattle.moo_desk.{specs.Rounds.{IsWokenFor}, proofs.Onward.{each_then, each_all}}
use Rattle.moo_desk.proofs.rounds.wake_slots.Goals as goal

pub loop-slot-preserved : goal.loop-slot-preserved
loop-slot-preserved g c =
    each_then (IsWokenFor (λ it. it ≡ c.args.mark)) c.loop-slot.slot-index c.args.slots.now c.loop-slot.slot-items c.slot-item.result c.wake_at.new.self (omega (arith, c.loop-slot-test.true, c.loop-slot.auto.slot-items)) c.loop-slot.invariant (c.wake_at.ensures.same, c.wake_at.ensures.due)

pub returns : goal.returns
returns g c = each_all (IsWokenFor (λ it. it ≡ c.args.mark)) c.loop-slot.slot-index c.args.slots.now c.loop-slot.slot-items (omega (arith, c.loop-slot-test.false, c.loop-slot.auto.slot-items)) c.loop-slot.invariant
