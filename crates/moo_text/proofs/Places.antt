-- Numbers of up to 19 digits.
use Rattle.std.{proofs.Common.{ℕ, ◌+◌, ◌*◌, ◌^◌, ◌<◌, ◌≤◌, lit<, arith}, proofs.Math.Nat.{pow-le-pow_right}}

-- there is room for one more digit behind 18
pub room_for_digit : (p i n : ℕ) → p < 10 ^ i → i < n → n ≤ 19 → 10 * p + 9 < 18446744073709551616
room_for_digit p i n below less few =
    let most : 10 ^ i ≤ 10 ^ 18 = pow-le-pow_right {n = 10} (lit< tt) {i = i} {j = 18} (omega arith) in
    let size : 10 ^ i ≤ 1000000000000000000 = most in
    omega arith
