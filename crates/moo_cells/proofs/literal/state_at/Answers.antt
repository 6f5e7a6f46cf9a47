use Rattle.moo_cells.{proofs.Words.{sym, ◌∙◌, err_from_is_err_and, fits_tested}, proofs.Texts.{not_state, text_inj, not_empty}}
use Rattle.moo_cells.proofs.literal.state_at.Goals as goal

pub returns-in_err-value-clause-err : goal.returns-in_err-value-clause-err
returns-in_err-value-clause-err c =
    let p = err_from_is_err_and c.from_residual-in_err-value.result c.from_residual-in_err-value.ensures.1 in
    let full = not_empty c.in_ok-text.text.now (sym c.is_empty.ensures ∙ c.if-is_empty.false) in
    rw p.1 (λ unreadable text state shows fits is. not_state c.in_err-value.field-0.0 c.in_ok-text.text.now text state c.in_err-value.ensures.only (p.2 unreadable) full shows fits (text_inj c.in_ok-text.text.now text (sym c.in_ok-text.ensures.ok ∙ is)))

pub returns-clause-fits : goal.returns-clause-fits
returns-clause-fits c = (fits_tested c.in_ok-value.value).1 c.in_ok-value.ensures.spelled.1
