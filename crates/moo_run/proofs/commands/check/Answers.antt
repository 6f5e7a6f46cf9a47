use Rattle.moo_run.{proofs.Words.{◌≡◌, inr, refl, IfOk, IfErr, Err, subst, ◌∙◌, OutOfMemory, StopsIn, state_of_world}, proofs.Tasks.{check_stops, check_tells}}
use Rattle.moo_run.proofs.commands.check.Goals as goal
use Rattle.std.{proofs.lemmas.Result.{err_from_is_err_and}, proofs.KnownBytes.{Appends-nil}, specs.Io.KnownBytes.{Appends}}

pub returns-in_err-objects-clause-checks : goal.returns-in_err-objects-clause-checks
returns-in_err-objects-clause-checks g c m stands =
    let p = err_from_is_err_and c.from_residual-in_err-objects.result c.from_residual-in_err-objects.ensures.1 in
    rw p.1 (check_stops g.B.Store c.args.world.now c.check.new.self m stands c.in_err-objects.field-0.0 p.0 (g.W.Write.contents c.args.output.now) p.2 c.in_err-objects.ensures.moves c.in_err-objects.ensures.checks)

pub returns-in-Ok-clause-checks : goal.returns-in-Ok-clause-checks
returns-in-Ok-clause-checks g c m stands =
    let old = g.W.Write.contents c.args.output.now in
    let new = g.W.Write.contents c.put_text.new.output in
    let line = c.as_str.ensures.value ∙ c.in-Ok.ensures in
    let number : c.in_ok-seq.seq ≡ (state_of_world c.args.world.now).seq = subst (λ r. IfOk r (λ n. c.in_ok-seq.seq ≡ n)) (c.in_ok-seq.ensures.number stands.failed) refl in
    check_tells g.B.Store c.args.world.now c.check.new.self m stands c.in_ok-objects.objects c.in_ok-seq.seq old new c.put_text.result c.in_ok-objects.ensures.moves c.in_ok-objects.ensures.checks number
    (subst (λ line. IfOk c.put_text.result (λ status. Appends old new line × (status ≡ 0))) line c.put_text.ensures.done) (subst (λ line. IfErr c.put_text.result (λ failure. StopsIn line failure old new)) line c.put_text.ensures.stops)

pub returns-in-Err-clause-checks : goal.returns-in-Err-clause-checks
returns-in-Err-clause-checks g c m stands =
    let old = g.W.Write.contents c.args.output.now in
    let number : c.in_ok-seq.seq ≡ (state_of_world c.args.world.now).seq = subst (λ r. IfOk r (λ n. c.in_ok-seq.seq ≡ n)) (c.in_ok-seq.ensures.number stands.failed) refl in
    check_tells g.B.Store c.args.world.now c.check.new.self m stands c.in_ok-objects.objects c.in_ok-seq.seq old old (Err OutOfMemory) c.in_ok-objects.ensures.moves c.in_ok-objects.ensures.checks number tt (inr refl, 0, Appends-nil old)
