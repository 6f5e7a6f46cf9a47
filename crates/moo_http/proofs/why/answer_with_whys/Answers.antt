use Rattle.moo_http.proofs.Words.{[], inl, refl}
use Rattle.std.proofs.lemmas.Result.{IfOk-weaker}
use Rattle.moo_http.proofs.why.answer_with_whys.Goals as goal

pub returns-then-not-asks_why : goal.returns-then-not-asks_why
returns-then-not-asks_why c = IfOk-weaker c.answer_text.result _ _ (λ bytes is. ([], (λ e. refl), is, inl refl)) c.answer_text.ensures
