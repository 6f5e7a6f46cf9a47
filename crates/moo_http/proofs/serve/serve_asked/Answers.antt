use Rattle.moo_http.{proofs.Words.{[], refl, subst, Written, ◌∙◌}, proofs.Going.{moves_as}, proofs.Serving.{written_nothing}}
use Rattle.moo_http.proofs.serve.serve_asked.Goals as goal

pub returns-clause-answered : goal.returns-clause-answered
returns-clause-answered g c =
    let told = c.in_ok-bytes.ensures in
    moves_as c.consult-outcome.ensures.moves (λ from to answers. (
      c.consult-outcome.result,
      told.0,
      told.1,
      answers,
      subst (Written c.write_out.result (g.W.Write.contents c.args.writer.now) (g.W.Write.contents c.write_out.new.writer)) (c.deref.ensures.value ∙ told.2) c.write_out.ensures.written,
    ))

pub returns-in_err-bytes-clause-answered : goal.returns-in_err-bytes-clause-answered
returns-in_err-bytes-clause-answered g c =
    moves_as c.consult-outcome.ensures.moves (λ from to answers. (c.consult-outcome.result, [], (λ e. refl), answers, written_nothing _ _ _ c.from_residual.ensures.1))
