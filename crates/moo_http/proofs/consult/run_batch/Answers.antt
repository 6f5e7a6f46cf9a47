use Rattle.moo_http.{proofs.Words.{Run, inl, ◌∙◌}, proofs.Going.{moves_as}, proofs.Consulting.{came_as, advances_one}, proofs.SeenAsked.{seen_one}}
use Rattle.moo_store.specs.Text.{answer_to}
use Rattle.moo_reasons.specs.Seen.{seen_by}
use Rattle.moo_http.proofs.consult.run_batch.Goals as goal

pub returns-clause-moves : goal.returns-clause-moves
returns-clause-moves g c =
    let ran = c.run_one in
    moves_as (advances_one g.S.Store c.args.world.now ran.new.self c.args.batch.now ran.result ran.ensures.moves ran.ensures.still ran.ensures.fault)
    (λ from to runs. inl (answer_to ran.result, runs, c.outcome_of_reply.ensures ∙ came_as g.S.Store c.args.world.now ran.new.self ran.result ran.ensures.fault))

pub returns-clause-seen : goal.returns-clause-seen
returns-clause-seen g c = seen_one c.args.world.now.rows.maps (seen_by c.args.whys.now) (seen_by c.run_one.new.witness) _ Run c.args.batch.now c.run_one.result c.outcome_of_reply.result c.outcome_of_reply.ensures c.run_one.ensures.seen
