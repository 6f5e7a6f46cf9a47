use Rattle.moo_cells.proofs.Exits.{err_of}
use Rattle.moo_cells.{proofs.Words.{ap, sym, ◌∙◌, ◌≡◌, length, [], ◌∷◌, and_parts, and_from, err_from_is_err_and, Row, column, is_number, calls_fit}, proofs.Columns.{all_columns}}
use Rattle.moo_cells.proofs.petition.PetitionRowReadRow.read.Goals as goal

pub returns-in_err-id-clause-err : goal.returns-in_err-id-clause-err
returns-in_err-id-clause-err c =
    rw (err_from_is_err_and c.from_residual.result c.from_residual.ensures.1).1 (λ fault read. c.in_err-id.ensures.err read.0.0 read.2.1.number (ap (λ (r : Row). column r 0) read.2.0.2))

pub returns-in_err-who-clause-err : goal.returns-in_err-who-clause-err
returns-in_err-who-clause-err c =
    rw (err_from_is_err_and c.from_residual-in_err-who.result c.from_residual-in_err-who.ensures.1).1 (λ fault read. c.in_err-who.ensures.err read.1.who (and_parts (is_number read.1.who) (calls_fit read.1.calls) read.2.1.fits).0 (ap (λ (r : Row). column r 1) read.2.0.2))

pub returns-in_err-calls-clause-err : goal.returns-in_err-calls-clause-err
returns-in_err-calls-clause-err c =
    err_of c.from_residual-in_err-calls.result c.from_residual-in_err-calls.ensures.1 (λ e is fault read. c.in_err-calls.ensures.err (sym is ∙ fault) read.2.0.0 read.1.calls read.2.0.1 (and_parts (is_number read.1.who) (calls_fit read.1.calls) read.2.1.fits).1 (ap (λ (r : Row). column r 2) read.2.0.2))

pub returns-clause-ok : goal.returns-clause-ok
returns-clause-ok c =
    let long : length c.args.cells.now ≡ 3 = sym c.column_count.ensures ∙ c.if-column_count-ne-COLUMNS.false in
    let calls = c.in_ok-calls.ensures.ok in (
      (
        calls.0,
        calls.1,
        all_columns 3 c.args.cells.now long ∙ (λ i. c.in_ok-id.ensures.ok i ∷ c.in_ok-who.ensures.ok i ∷ calls.2 i ∷ []),
      ),
      record {
        number = c.in_ok-id.ensures.fits;
        fits = and_from (is_number c.in_ok-who.who) (calls_fit c.in_ok-calls.calls) c.in_ok-who.ensures.fits c.in_ok-calls.ensures.fits;
      },
    )
