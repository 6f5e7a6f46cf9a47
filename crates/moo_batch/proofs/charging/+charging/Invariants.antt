use Rattle.std.proofs.Common.{◌+◌, ◌*◌}
use Rattle.moo_value.{specs.Value.{nesting}, specs.Values.{levels}}
use Rattle.moo_batch.proofs.charging.+charging.Given as goal

abbrev pub decreases-ticks_of : goal.decreases-ticks_of
decreases-ticks_of l = 2 * nesting l.answer.now

abbrev pub decreases-ticks_in : goal.decreases-ticks_in
decreases-ticks_in l = 2 * levels l.values.now + 1
