use Rattle.moo_cells.proofs.Exits.{err_of}
use Rattle.moo_cells.{proofs.Words.{◌≡◌, length, [], ◌∷◌, ap, sym, ◌∙◌, and_parts, and_from, err_from_is_err_and, Row, column}, proofs.Columns.{all_columns}, proofs.Texts.{has_a_word}}
use Rattle.moo_cells.proofs.verb.VerbRowReadRow.read.Goals as goal

pub returns-in_err-object-clause-err : goal.returns-in_err-object-clause-err
returns-in_err-object-clause-err c =
    rw (err_from_is_err_and c.from_residual.result c.from_residual.ensures.1).1 (λ fault read. c.in_err-object.ensures.err read.0.0 read.2.1.object (ap (λ (r : Row). column r 0) read.2.0.2))

pub returns-in_err-id-clause-err : goal.returns-in_err-id-clause-err
returns-in_err-id-clause-err c =
    rw (err_from_is_err_and c.from_residual-in_err-id.result c.from_residual-in_err-id.ensures.1).1 (λ fault read. c.in_err-id.ensures.err read.0.1.0 read.2.1.number (ap (λ (r : Row). column r 1) read.2.0.2))

pub returns-in_err-names-clause-err : goal.returns-in_err-names-clause-err
returns-in_err-names-clause-err c =
    err_of c.from_residual-in_err-names.result c.from_residual-in_err-names.ensures.1 (λ e is fault read. c.in_err-names.ensures.err (sym is ∙ fault) read.1.names (and_parts _ _ (and_parts _ _ read.2.1.fits).1).0 (ap (λ (r : Row). column r 2) read.2.0.2))

pub returns-in_err-owner-clause-err : goal.returns-in_err-owner-clause-err
returns-in_err-owner-clause-err c =
    rw (err_from_is_err_and c.from_residual-in_err-owner.result c.from_residual-in_err-owner.ensures.1).1 (λ fault read. c.in_err-owner.ensures.err read.1.owner (and_parts _ _ (and_parts _ _ read.2.1.fits).1).1 (ap (λ (r : Row). column r 3) read.2.0.2))

pub returns-in_err-bits-clause-err : goal.returns-in_err-bits-clause-err
returns-in_err-bits-clause-err c =
    rw (err_from_is_err_and c.from_residual-in_err-bits.result c.from_residual-in_err-bits.ensures.1).1 (λ fault read. c.in_err-bits.ensures.err read.2.0.0 read.1.bits read.2.0.1 (ap (λ (r : Row). column r 4) read.2.0.2))

pub returns-in_err-args-clause-err : goal.returns-in_err-args-clause-err
returns-in_err-args-clause-err c =
    rw (err_from_is_err_and c.from_residual-in_err-args.result c.from_residual-in_err-args.ensures.1).1 (λ fault read. c.in_err-args.ensures.err read.1.args (record { dobj = (ap (λ (r : Row). column r 5) read.2.0.2); prep = (ap (λ (r : Row). column r 6) read.2.0.2); iobj = (ap (λ (r : Row). column r 7) read.2.0.2) }))

pub returns-clause-ok : goal.returns-clause-ok
returns-clause-ok c =
    let long : length c.args.cells.now ≡ 8 = sym c.column_count.ensures ∙ c.if-column_count-ne-COLUMNS.false in
    let bits = c.in_ok-bits.ensures.ok in
    let args = c.in_ok-args.ensures.ok in
    let word = has_a_word c.in_ok-names.names c.check_names.result c.check_names.ensures (sym c.is_err.ensures.value ∙ c.if-is_err.false) in (
      (
        bits.0,
        bits.1,
        all_columns 8 c.args.cells.now long
            ∙ (λ i. c.in_ok-object.ensures.ok i ∷ c.in_ok-id.ensures.ok i ∷ c.in_ok-names.ensures.ok i ∷ c.in_ok-owner.ensures.ok i ∷ bits.2 i ∷ args.dobj i ∷ args.prep i ∷ args.iobj i ∷ []),
      ),
      record {
        object = c.in_ok-object.ensures.fits;
        number = c.in_ok-id.ensures.fits;
        fits = and_from _ _ word (and_from _ _ c.in_ok-names.ensures.fits c.in_ok-owner.ensures.fits);
      },
    )
