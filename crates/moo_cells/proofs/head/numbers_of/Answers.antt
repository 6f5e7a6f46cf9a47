use Rattle.moo_cells.{proofs.Words.{◌≡◌, ℤ, Row, column, length, [], ◌∷◌, ap, sym, subst, ◌∙◌, w64, FitsSigned, to_z, of_z, to_z-of_z, Value}, proofs.Columns.{all_columns}, proofs.Exits.{whatever}}
use Rattle.moo_cells.proofs.head.numbers_of.Goals as goal
use Rattle.sqlite.specs.declared.types.Value.TheVariants.{Int as Number}

-- the number as a field keeps it
kept : (v : Value) (n : ℤ) → v ≡ Number n → FitsSigned w64 n → v ≡ Number (to_z w64 (of_z w64 n))
kept v n is fits = is ∙ ap Number (sym (to_z-of_z w64 n fits))

pub returns-clause-ok : goal.returns-clause-ok
returns-clause-ok c =
    let long : length c.args.cells.now ≡ 6 = sym c.column_count.ensures ∙ c.if-column_count-ne-COLUMNS.false in
    let id = kept _ _ c.in_ok-id.ensures.ok c.in_ok-id.ensures.fits in
    let version = kept _ _ c.in_ok-version.ensures.ok c.in_ok-version.ensures.fits in
    let seq = kept _ _ c.in_ok-seq.ensures.ok c.in_ok-seq.ensures.fits in
    let top = kept _ _ c.in_ok-top.ensures.ok c.in_ok-top.ensures.fits in
    let next_prop = kept _ _ c.in_ok-next_prop.ensures.ok c.in_ok-next_prop.ensures.fits in
    let next_verb = kept _ _ c.in_ok-next_verb.ensures.ok c.in_ok-next_verb.ensures.fits in
    all_columns 6 c.args.cells.now long ∙ (λ i. id i ∷ version i ∷ seq i ∷ top i ∷ next_prop i ∷ next_verb i ∷ [])

-- a field keeps a number of 64 bits
fits_kept : (n : ℤ) → FitsSigned w64 n → FitsSigned w64 (to_z w64 (of_z w64 n))
fits_kept n fits = subst (FitsSigned w64) (sym (to_z-of_z w64 n fits)) fits

pub returns-clause-words : goal.returns-clause-words
returns-clause-words c = record {
  seq = fits_kept c.in_ok-seq.seq c.in_ok-seq.ensures.fits;
  top = fits_kept c.in_ok-top.top c.in_ok-top.ensures.fits;
  next_prop = fits_kept c.in_ok-next_prop.next_prop c.in_ok-next_prop.ensures.fits;
  next_verb = fits_kept c.in_ok-next_verb.next_verb c.in_ok-next_verb.ensures.fits;
}

-- cells without a number in a column are not those of numbers
pub returns-then-column_count-ne-COLUMNS-clause-err : goal.returns-then-column_count-ne-COLUMNS-clause-err
returns-then-column_count-ne-COLUMNS-clause-err c = λ numbers same. c.if-column_count-ne-COLUMNS.true (c.column_count.ensures ∙ ap length same)

pub returns-in_err-id-clause-err : goal.returns-in_err-id-clause-err
returns-in_err-id-clause-err c = whatever c.from_residual.result (λ numbers same. c.in_err-id.ensures.err numbers.id (ap (λ (r : Row). column r 0) same))

pub returns-in_err-version-clause-err : goal.returns-in_err-version-clause-err
returns-in_err-version-clause-err c = whatever c.from_residual-in_err-version.result (λ numbers same. c.in_err-version.ensures.err numbers.version (ap (λ (r : Row). column r 1) same))

pub returns-in_err-seq-clause-err : goal.returns-in_err-seq-clause-err
returns-in_err-seq-clause-err c = whatever c.from_residual-in_err-seq.result (λ numbers same. c.in_err-seq.ensures.err numbers.seq (ap (λ (r : Row). column r 2) same))

pub returns-in_err-top-clause-err : goal.returns-in_err-top-clause-err
returns-in_err-top-clause-err c = whatever c.from_residual-in_err-top.result (λ numbers same. c.in_err-top.ensures.err numbers.top (ap (λ (r : Row). column r 3) same))

pub returns-in_err-next_prop-clause-err : goal.returns-in_err-next_prop-clause-err
returns-in_err-next_prop-clause-err c = whatever c.from_residual-in_err-next_prop.result (λ numbers same. c.in_err-next_prop.ensures.err numbers.next_prop (ap (λ (r : Row). column r 4) same))

pub returns-in_err-next_verb-clause-err : goal.returns-in_err-next_verb-clause-err
returns-in_err-next_verb-clause-err c = whatever c.from_residual-in_err-next_verb.result (λ numbers same. c.in_err-next_verb.ensures.err numbers.next_verb (ap (λ (r : Row). column r 5) same))
