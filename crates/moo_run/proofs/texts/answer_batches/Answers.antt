use Rattle.moo_run.{proofs.Words.{refl, sym, ◌∙◌}, proofs.Tasks.{any_lack, never_opened, unchanged}}
use Rattle.moo_run.proofs.texts.answer_batches.Goals as goal

pub returns-then-eq-clause-answers : goal.returns-then-eq-clause-answers
returns-then-eq-clause-answers g c m stands =
    rw (sym c.eq.ensures ∙ c.if-eq.true) (any_lack g.B.Store c.args.world.now c.answer_batches_text.new.world m _ c.args.manner (g.S.Input.Read.remaining c.args.session.now.input) (g.S.Output.Write.contents c.args.session.now.output) (g.S.Output.Write.contents c.answer_batches_text.new.output) c.answer_batches_text.result (c.answer_batches_text.ensures.answers m stands))

pub returns-in-Ok-clause-answers : goal.returns-in-Ok-clause-answers
returns-in-Ok-clause-answers g c m stands =
    rw (sym c.eq.ensures ∙ c.if-eq.false, ← c.in-Ok.ensures.text) (any_lack g.B.Store c.args.world.now c.answer_batches_text-in-Ok.new.world m _ c.args.manner (g.S.Host.Text.Read.remaining c.in-Ok.file) (g.S.Output.Write.contents c.args.session.now.output) (g.S.Output.Write.contents c.answer_batches_text-in-Ok.new.output) c.answer_batches_text-in-Ok.result (c.answer_batches_text-in-Ok.ensures.answers m stands))

pub returns-in-Err-clause-answers : goal.returns-in-Err-clause-answers
returns-in-Err-clause-answers g c m stands =
    unchanged g.B.Store c.args.world.now m _ stands (never_opened c.args.manner m _ (g.S.Output.Write.contents c.args.session.now.output), λ none. c.in-Err.ensures.lacks refl)
