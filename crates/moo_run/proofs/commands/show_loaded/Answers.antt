use Rattle.moo_run.proofs.Words.{◌≡◌, IfErr, refl, subst, subst₂, loaded_line, StopsIn}
use Rattle.moo_run.proofs.commands.show_loaded.Goals as goal
use Rattle.std.specs.Prelude.{IfOk}

pub returns-clause-stops : goal.returns-clause-stops
returns-clause-stops g c works =
    subst₂ (λ seq objects. IfErr c.put_loaded.result (λ failure. StopsIn (loaded_line seq objects) failure (g.W.Write.contents c.args.output.now) (g.W.Write.contents c.put_loaded.new.output)))
    (subst (λ r. IfOk r (λ n. c.in_ok-seq.seq ≡ n)) (c.in_ok-seq.ensures.number works) refl)
    (subst (λ r. IfOk r (λ n. c.in_ok-objects.objects ≡ n)) (c.in_ok-objects.ensures.count works) refl)
    c.put_loaded.ensures.stops
