use Rattle.moo_store.proofs.Texts.{text_moves}
use Rattle.moo_store.proofs.apply.apply_until.Goals as goal

pub returns : goal.returns
returns g c = text_moves g.S.Store c.args.stop c.args.world.now c.answer_until.new.answering (g.R.Read.remaining c.args.reader) _ _ c.answer_until.result c.answer_until.ensures
