use Rattle.moo_cells.proofs.Exits.{err_of}
use Rattle.moo_cells.{proofs.Words.{◌≡◌, length, [], ◌∷◌, ap, sym, ◌∙◌, and_parts, err_from_is_err_and, Row, column}, proofs.Columns.{all_columns}}
use Rattle.moo_cells.proofs.prop.PropRowReadRow.read.Goals as goal

pub returns-in_err-id-clause-err : goal.returns-in_err-id-clause-err
returns-in_err-id-clause-err c =
    rw (err_from_is_err_and c.from_residual.result c.from_residual.ensures.1).1 (λ fault read. c.in_err-id.ensures.err read.0.0 read.2.1.number (ap (λ (r : Row). column r 0) read.2.0))

pub returns-in_err-definer-clause-err : goal.returns-in_err-definer-clause-err
returns-in_err-definer-clause-err c =
    rw (err_from_is_err_and c.from_residual-in_err-definer.result c.from_residual-in_err-definer.ensures.1).1 (λ fault read. c.in_err-definer.ensures.err read.1.definer read.2.1.definer (ap (λ (r : Row). column r 1) read.2.0))

pub returns-in_err-name-clause-err : goal.returns-in_err-name-clause-err
returns-in_err-name-clause-err c =
    err_of c.from_residual-in_err-name.result c.from_residual-in_err-name.ensures.1 (λ e is fault read. c.in_err-name.ensures.err (sym is ∙ fault) read.1.name (and_parts _ _ read.2.1.name).0 (ap (λ (r : Row). column r 2) read.2.0))

pub returns-clause-ok : goal.returns-clause-ok
returns-clause-ok c =
    let long : length c.args.cells.now ≡ 3 = sym c.column_count.ensures ∙ c.if-column_count-ne-COLUMNS.false in (
      all_columns 3 c.args.cells.now long ∙ (λ i. c.in_ok-id.ensures.ok i ∷ c.in_ok-definer.ensures.ok i ∷ c.in_ok-name.ensures.ok i ∷ []),
      record {
        number = c.in_ok-id.ensures.fits;
        definer = c.in_ok-definer.ensures.fits;
        name = sym c.is_property_name.ensures ∙ c.if-not-is_property_name.false;
      },
    )
