use Rattle.std.proofs.Common.{pos}
use Rattle.moo_dump.{proofs.Words.{arith, get_or, LeadsUp}, proofs.Skipping.{added, all_at}}
use Rattle.moo_dump.proofs.skips.add_way.Goals as goal

pub loop-y-preserved : goal.loop-y-preserved
loop-y-preserved c t up all =
    let y = get_or c.args.way.now c.loop-y.y-index (record { 0 = pos 0 }) in
    added t c.loop-y.skips c.insert.new.self y c.args.above c.in_ok-insert.ensures.updates.0 (c.loop-y.invariant t up all) (all_at (λ x. LeadsUp t x c.args.above) c.args.way.now c.loop-y.y-index (record { 0 = pos 0 }) all c.loop-y-test.true)
