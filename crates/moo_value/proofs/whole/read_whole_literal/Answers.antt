use Rattle.moo_value.{proofs.Words.{ℕ, inl, inr, refl, length, take_all, Ok, sym, ap, subst, arith, Spells, err_from_is_err_and, Value, is_ok}, proofs.Printed.{fails_again, whole}}
use Rattle.moo_value.proofs.whole.read_whole_literal.Goals as goal

pub returns-in_err-value-clause-only : goal.returns-in_err-value-clause-only
returns-in_err-value-clause-only c v fits spells =
    let p = err_from_is_err_and c.from_residual.result c.from_residual.ensures.1 in
    rw (p.1, p.2) (fails_again c.in_err-value.field-0.0 (v, length c.args.bytes.now) v (c.in_err-value.ensures.only v (length c.args.bytes.now) (whole v c.args.bytes.now fits spells)))

pub returns-then-used-bytes-clause-only : goal.returns-then-used-bytes-clause-only
returns-then-used-bytes-clause-only c v fits spells =
    ap (λ (x : Value × ℕ). Ok x.0) (is_ok _ _ (c.in_ok-value.ensures.only v (length c.args.bytes.now) (whole v c.args.bytes.now fits spells)))

pub returns-else-used-bytes-clause-only : goal.returns-else-used-bytes-clause-only
returns-else-used-bytes-clause-only c v fits spells =
    absurd (c.if-used-bytes.false (sym (ap (λ (x : Value × ℕ). x.1) (is_ok _ _ (c.in_ok-value.ensures.only v (length c.args.bytes.now) (whole v c.args.bytes.now fits spells))))))

pub returns-then-used-bytes-clause-spelled : goal.returns-then-used-bytes-clause-spelled
returns-then-used-bytes-clause-spelled c =
    let front = c.in_ok-value.ensures.found in
    (subst (Spells c.in_ok-value.value) (take_all c.in_ok-value.used c.args.bytes.now (omega (arith, c.if-used-bytes.true))) front.spelled, front.fits)

pub returns-in_err-value-clause-fault : goal.returns-in_err-value-clause-fault
returns-in_err-value-clause-fault c =
    let p = err_from_is_err_and c.from_residual.result c.from_residual.ensures.1 in
    rw (p.1, p.2) (λ other. inl (c.in_err-value.ensures.fault other))

pub returns-else-used-bytes-clause-fault : goal.returns-else-used-bytes-clause-fault
returns-else-used-bytes-clause-fault c =
    let front = c.in_ok-value.ensures.found in
    λ other. inr (refl, c.in_ok-value.value, c.in_ok-value.used, front, omega (arith, front.within, c.if-used-bytes.false))
