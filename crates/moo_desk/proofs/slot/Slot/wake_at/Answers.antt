use Rattle.moo_desk.proofs.Ripening.{idle_if}
use Rattle.std.proofs.Common.{nat_eq}
use Rattle.moo_desk.proofs.slot.Slot.wake_at.Goals as goal

pub invariant_of-self : goal.invariant_of-self
invariant_of-self g c =
    let slot = c.args.self.now in
    record {
      pair = slot.pair;
      known = slot.known;
      ripe = slot.ripe;
      unfinished = slot.unfinished;
      stops = slot.stops;
      idle = idle_if slot.is_due (nat_eq slot.mark c.args.mark) slot.idle;
    }
