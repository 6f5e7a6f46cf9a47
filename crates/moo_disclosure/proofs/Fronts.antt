-- The front of a list that begins with a front.
use Rattle.std.proofs.Common.{◌≡◌, ◌≤◌, ℕ, zero, suc, List, [], ◌∷◌, ◌++◌, length, take, refl, sym, ap, subst, arith}

pub front_again : {A : Type 0} (n : ℕ) (first rest : List A) → take n (take n first ++ rest) ≡ take n (first ++ rest)
front_again zero first rest = refl
front_again (suc n) [] rest = refl
front_again (suc n) (x ∷ first) rest = ap (λ l. x ∷ l) (front_again n first rest)

short : {A : Type 0} (n : ℕ) (all : List A) → length (take n all) ≤ n
short zero all = omega arith
short (suc n) [] = omega arith
short (suc n) (x ∷ all) = let rest = short n all in omega (arith, rest)

pub front_short : {A : Type 0} (n : ℕ) (all front : List A) → front ≡ take n all → length front ≤ n
front_short n all front is = subst (λ l. length l ≤ n) (sym is) (short n all)
