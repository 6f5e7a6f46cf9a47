use Rattle.moo_run.{proofs.Words.{sym, subst, EndsTask, AnswersAs}, proofs.Tasks.{comes_done, comes_stops, ends_map, text_opened}}
use Rattle.moo_run.proofs.texts.answer_batches_text.Goals as goal

pub returns-in-Ok-clause-answers : goal.returns-in-Ok-clause-answers
returns-in-Ok-clause-answers g c m stands =
    let text = g.R.Read.remaining c.args.text in
    let old = g.W.Write.contents c.args.output.now in
    let new = g.W.Write.contents c.answer_by-done.new.output in
    subst (λ status. EndsTask g.B.Store c.args.world.now c.answer_by-done.new.world m (λ end. AnswersAs c.args.manner m end text old new status)) (sym c.course_status.ensures)
    (ends_map g.B.Store c.args.world.now c.answer_by-done.new.world m _ _ (λ end it. comes_done c.args.manner m end text old new c.in-Ok.course it) (c.in-Ok.ensures.answers m stands))

pub returns-clause-answers : goal.returns-clause-answers
returns-clause-answers g c m stands =
    ends_map g.B.Store c.args.world.now c.answer_by-done.new.world m _ _
    (λ end it. (comes_stops c.args.manner m end (g.R.Read.remaining c.args.text) (g.W.Write.contents c.args.output.now) (g.W.Write.contents c.answer_by-done.new.output) c.in-Err.fault c.from.result c.from.ensures it, text_opened c.in-Err.fault c.from.result c.from.ensures))
    (c.in-Err.ensures.answers m stands)
