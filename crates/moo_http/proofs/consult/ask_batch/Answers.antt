use Rattle.moo_http.{proofs.Words.{Ask}, proofs.Consulting.{asked}, proofs.SeenAsked.{seen_one}}
use Rattle.moo_reasons.specs.Seen.{seen_by}
use Rattle.moo_http.proofs.consult.ask_batch.Goals as goal

pub returns-clause-comes : goal.returns-clause-comes
returns-clause-comes g c place at =
    rw c.outcome_of_reply.ensures (asked g.S.Store c.args.world.now c.args.batch.now c.ask.result c.ask.ensures.asks c.ask.ensures.closed place at)

pub returns-clause-seen : goal.returns-clause-seen
returns-clause-seen g c = seen_one c.args.world.now.rows.maps (seen_by c.args.whys.now) (seen_by c.ask.new.witness) _ Ask c.args.batch.now c.ask.result c.outcome_of_reply.result c.outcome_of_reply.ensures c.ask.ensures.seen
