use Rattle.moo_load.{proofs.Words.{sym, ◌∙◌, from_err}, proofs.Accepting.{not_accept}}
use Rattle.moo_load.proofs.value.accept_of.Goals as goal

pub returns-in_err-objects-in-List-clause-err : goal.returns-in_err-objects-in-List-clause-err
returns-in_err-objects-in-List-clause-err c = from_err c.from_residual.result c.from_residual.ensures.1 (λ fault own unreadable accept fits is. not_accept c.in-List.list c.items.result.now c.items.ensures.plain (c.in_err-objects-in-List.ensures.err (λ none. unreadable (own ∙ none))) accept fits (sym c.in-List.is ∙ is))
