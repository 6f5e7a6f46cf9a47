-- A row of so many columns is the list of them.
use Rattle.moo_cells.proofs.Words.{◌≡◌, ℕ, zero, suc, [], ◌∷◌, length, ap, refl, sym, ◌∙◌, arith, Value, Row, column}

-- so many columns, from one on
abbrev pub columns_from : ℕ → ℕ → Row → Row
columns_from at zero r = []
columns_from at (suc n) r = column r at ∷ columns_from (suc at) n r

behind_first : (x : Value) (r : Row) (at n : ℕ) → columns_from (suc at) n (x ∷ r) ≡ columns_from at n r
behind_first x r at zero = refl
behind_first x r at (suc n) = ap (λ (l : Row). column r at ∷ l) (behind_first x r (suc at) n)

pub all_columns : (n : ℕ) (r : Row) → length r ≡ n → r ≡ columns_from 0 n r
all_columns zero [] long = refl
all_columns (suc n) (x ∷ r) long = ap (λ (l : Row). x ∷ l) (all_columns n r (omega arith) ∙ sym (behind_first x r 0 n))
all_columns n r long = absurd (omega arith)
