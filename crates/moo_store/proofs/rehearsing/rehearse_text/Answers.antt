use Rattle.moo_store.{proofs.Words.{Works, RehearsesAt, rows_alone, IsRehearsedAt}, proofs.Rehearsals.{Rehearses, taken_at, begins_at}, proofs.Texts.{answers-follow}}
use Rattle.moo_store.proofs.rehearsing.rehearse_text.Goals as goal

pub returns-clause-rehearses : goal.returns-clause-rehearses
returns-clause-rehearses g c m at =
    let run = answers-follow Rehearses RehearsesAt IsRehearsedAt (λ was next place batch a here one. one place here) c.args.stop _ _ (Works (rows_alone m.rows)) (g.R.Read.remaining c.args.reader) _ _ c.answer_until.result
    (begins_at g.S.Store c.args.world.now c.of-rehearsal.result m c.of-rehearsal.ensures.rows.0 c.of-rehearsal.ensures.rows.1 at) c.answer_until.ensures in
    (taken_at g.S.Store c.args.world.now c.of-rehearsal.new.world m c.of-rehearsal.ensures.still.0 c.of-rehearsal.ensures.still.1 at, (run.0, run.2))
