use Rattle.std.proofs.Common.{arith, ap}
use Rattle.moo_value.specs.Values.{levels}
use Rattle.moo_batch.proofs.Nesting.{nesting_le}
use Rattle.moo_batch.proofs.charging.+charging.Goals as goal

pub ticks_in-ticks_of-requires : goal.ticks_in-ticks_of-requires
ticks_in-ticks_of-requires t c =
    let inside = nesting_le c.items-value-items.result.now c.loop-value.value-index c.value-item.result c.value-item.is c.loop-value-test.true in
    (omega (arith, inside, ap levels c.items-value-items.ensures.gathered, c.decreases), tt)
