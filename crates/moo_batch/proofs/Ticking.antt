-- How many ticks are left after a batch.
use Rattle.std.proofs.Common.{◌≤◌, ℕ, Option, None, Some, refl, subst, arith}
use Rattle.moo_batch.{specs.Ticks.{NoneComeBack, TakesOne, TakesTicks, HasMadeCall}, specs.declared.judging.Verdict.{Verdict}}

below_itself : (n : ℕ) → n ≤ n
below_itself n = omega arith

pub as_before : (left : Option ℕ) → NoneComeBack left left
as_before None = refl
as_before (Some n) = (n, refl, below_itself n)

pub and_then : (one two three : Option ℕ) → NoneComeBack one two → NoneComeBack two three → NoneComeBack one three
and_then None two three none more = subst (λ left. NoneComeBack left three) none more
and_then (Some n) two three (left, is, less) more =
    let then = subst (λ left. NoneComeBack left three) is more in (then.0, then.1, omega (arith, less, then.2))

pub of_batch : (old new : Option ℕ) (verdict : Verdict) → TakesTicks old new verdict → NoneComeBack old new
of_batch None new verdict taken = taken
of_batch (Some n) new verdict (left, is, less, one) = (left, is, less)

-- no call was made
pub none_taken : (left : Option ℕ) (verdict : Verdict) → ¬ (HasMadeCall verdict) → TakesTicks left left verdict
none_taken None verdict none = refl
none_taken (Some n) verdict none = (n, refl, below_itself n, λ made. absurd (none made))

pub one_taken : (old new : Option ℕ) (verdict : Verdict) → TakesOne old new → TakesTicks old new verdict
one_taken None new verdict taken = taken
one_taken (Some n) new verdict (left, is, less) = (left, is, omega (arith, less), λ made. less)
