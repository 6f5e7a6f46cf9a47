use Rattle.moo_cells.{proofs.Exits.{err_of}, proofs.Words.{sym, ◌∙◌}, proofs.Texts.{not_text, text_inj}}
use Rattle.moo_cells.proofs.cell.string_at.Goals as goal

pub returns-in_err-from_bytes-clause-err : goal.returns-in_err-from_bytes-clause-err
returns-in_err-from_bytes-clause-err c =
    err_of c.from_residual-in_err-from_bytes.result c.from_residual-in_err-from_bytes.ensures.1 (λ e told unreadable text fits is. not_text c.in_err-from_bytes.field-0.0 c.in_ok-text_at.field-0.now text c.in_err-from_bytes.ensures.err (told unreadable) fits (text_inj c.in_ok-text_at.field-0.now text (sym c.in_ok-text_at.ensures.ok ∙ is)))
