use Rattle.moo_run.proofs.Words.{IfErr, subst, ◌∙◌, StopsIn}
use Rattle.moo_run.proofs.commands.put_loaded.Goals as goal

pub returns-in-Ok-clause-stops : goal.returns-in-Ok-clause-stops
returns-in-Ok-clause-stops g c =
    subst (λ line. IfErr c.put_text.result (λ failure. StopsIn line failure (g.W.Write.contents c.args.output.now) (g.W.Write.contents c.put_text.new.output)))
    (c.as_str.ensures.value ∙ c.in-Ok.ensures) c.put_text.ensures.stops
