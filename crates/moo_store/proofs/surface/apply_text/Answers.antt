use Rattle.moo_store.{proofs.Words.{Ok, Err, false, RunsAt, AnswersBy}, proofs.Moving.{moves_as}, proofs.Texts.{text_moves, to_its_end}}
use Rattle.moo_store.proofs.surface.apply_text.Goals as goal

pub returns-in-Ok : goal.returns-in-Ok
returns-in-Ok g c =
    let old = c.args.world.now in
    let new = c.answer_until.new.answering in
    let text = g.R.Read.remaining c.args.reader in
    let before = g.W.Write.contents c.args.writer.now in
    let behind = g.W.Write.contents c.answer_until.new.writer in
    moves_as g.S.Store old new (λ from to. AnswersBy RunsAt false from to text before behind (Ok c.in-Ok.course)) _
    (text_moves g.S.Store false old new text before behind (Ok c.in-Ok.course) c.in-Ok.ensures) (λ from to at here it. to_its_end RunsAt from to text before behind c.in-Ok.course.stopped c.in-Ok.course.tally.batches c.in-Ok.course.tally.lost it)

pub returns-in-Err : goal.returns-in-Err
returns-in-Err g c = text_moves g.S.Store false c.args.world.now c.answer_until.new.answering (g.R.Read.remaining c.args.reader) (g.W.Write.contents c.args.writer.now) (g.W.Write.contents c.answer_until.new.writer) (Err c.in-Err.fault) c.in-Err.ensures
