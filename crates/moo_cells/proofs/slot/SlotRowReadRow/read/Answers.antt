use Rattle.moo_cells.proofs.Exits.{err_of}
use Rattle.moo_cells.{proofs.Words.{◌≡◌, length, [], ◌∷◌, ap, sym, subst, ◌∙◌, err_from_is_err_and, Value, Row, column, ShowsBits}, proofs.Columns.{all_columns}}
use Rattle.moo_cells.proofs.slot.SlotRowReadRow.read.Goals as goal

pub returns-in_err-object-clause-err : goal.returns-in_err-object-clause-err
returns-in_err-object-clause-err c =
    rw (err_from_is_err_and c.from_residual.result c.from_residual.ensures.1).1 (λ fault read. c.in_err-object.ensures.err read.0.0 read.2.1.object (ap (λ (r : Row). column r 0) read.2.0.4))

pub returns-in_err-prop-clause-err : goal.returns-in_err-prop-clause-err
returns-in_err-prop-clause-err c =
    rw (err_from_is_err_and c.from_residual-in_err-prop.result c.from_residual-in_err-prop.ensures.1).1 (λ fault read. c.in_err-prop.ensures.err read.0.1.0 read.2.1.number (ap (λ (r : Row). column r 1) read.2.0.4))

pub returns-in_err-owner-clause-err : goal.returns-in_err-owner-clause-err
returns-in_err-owner-clause-err c =
    rw (err_from_is_err_and c.from_residual-in_err-owner.result c.from_residual-in_err-owner.ensures.1).1 (λ fault read. c.in_err-owner.ensures.err read.1.owner read.2.1.owner (ap (λ (r : Row). column r 2) read.2.0.4))

pub returns-in_err-bits-clause-err : goal.returns-in_err-bits-clause-err
returns-in_err-bits-clause-err c =
    rw (err_from_is_err_and c.from_residual-in_err-bits.result c.from_residual-in_err-bits.ensures.1).1 (λ fault read. c.in_err-bits.ensures.err read.1.bits (subst (λ (v : Value). ShowsBits c.args.version v read.1.bits) (sym (ap (λ (r : Row). column r 3) read.2.0.4)) read.2.0.2))

pub returns-in_err-state-clause-err : goal.returns-in_err-state-clause-err
returns-in_err-state-clause-err c =
    err_of c.from_residual-in_err-state.result c.from_residual-in_err-state.ensures.1 (λ e is fault read. c.in_err-state.ensures.err (sym is ∙ fault) read.2.0.1 read.1.state read.2.0.3 read.2.1.state (ap (λ (r : Row). column r 4) read.2.0.4))

pub returns-clause-ok : goal.returns-clause-ok
returns-clause-ok c =
    let long : length c.args.cells.now ≡ 5 = sym c.column_count.ensures ∙ c.if-column_count-ne-COLUMNS.false in
    let state = c.in_ok-state.ensures.ok in (
      (
        column c.args.cells.now 3,
        state.0,
        c.in_ok-bits.ensures.ok,
        state.1,
        all_columns 5 c.args.cells.now long ∙ (λ i. c.in_ok-object.ensures.ok i ∷ c.in_ok-prop.ensures.ok i ∷ c.in_ok-owner.ensures.ok i ∷ column c.args.cells.now 3 ∷ state.2 i ∷ []),
      ),
      record {
        object = c.in_ok-object.ensures.fits;
        number = c.in_ok-prop.ensures.fits;
        owner = c.in_ok-owner.ensures.fits;
        state = c.in_ok-state.ensures.fits;
      },
    )
