use Rattle.moo_http.{proofs.Apart.{each_at, each_closed}, proofs.SeenAsked.{seen_lost}}
use Rattle.moo_reasons.specs.Seen.{seen_by}
use Rattle.moo_http.proofs.consult.ask_each.Goals as goal

pub returns-in-Ok-clause-comes : goal.returns-in-Ok-clause-comes
returns-in-Ok-clause-comes g c place at =
    each_at g.S.Store c.args.world.now c.args.each.now c.ask_each_at.result c.seq.result c.in-Ok.seq c.in-Ok.is c.seq.ensures.number c.seq.ensures.closed c.ask_each_at.ensures.comes place at

pub returns-in-Err-clause-comes : goal.returns-in-Err-clause-comes
returns-in-Err-clause-comes g c place at =
    rw c.outcome_of_fault.ensures (each_closed g.S.Store c.args.world.now c.args.each.now c.seq.result c.in-Err.fault c.in-Err.is c.seq.ensures.number c.seq.ensures.closed place at)

pub returns-in-Err-clause-seen : goal.returns-in-Err-clause-seen
returns-in-Err-clause-seen g c = seen_lost c.args.world.now.rows.maps (seen_by c.args.whys.now) (seen_by c.args.whys.now) c.args.each.now c.in-Err.fault c.outcome_of_fault.result c.outcome_of_fault.ensures
