use Rattle.moo_store.{proofs.Words.{false, Ok, Err, AsksAt}, proofs.Texts.{asks_all, to_its_end}}
use Rattle.moo_store.proofs.ask.ask_text.Goals as goal

pub returns-in-Ok : goal.returns-in-Ok
returns-in-Ok g c place at =
    to_its_end AsksAt place place (g.R.Read.remaining c.args.reader) (g.W.Write.contents c.args.writer.now) (g.W.Write.contents c.answer_until.new.writer) c.in-Ok.course.stopped c.in-Ok.course.tally.batches c.in-Ok.course.tally.lost
    (asks_all _ _ place (λ batch a new p. (p.0, p.1 place at)) false _ (g.R.Read.remaining c.args.reader) _ _ (Ok c.in-Ok.course) c.in-Ok.ensures)

pub returns-in-Err : goal.returns-in-Err
returns-in-Err g c place at = asks_all _ _ place (λ batch a new p. (p.0, p.1 place at)) false _ (g.R.Read.remaining c.args.reader) _ _ (Err c.in-Err.fault) c.in-Err.ensures
