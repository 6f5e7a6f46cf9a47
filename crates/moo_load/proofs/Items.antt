-- A list by its items.
use Rattle.moo_load.proofs.Words.{◌≡◌, ℕ, suc, ◌+◌, List, [], ◌∷◌, length, get_or, drop, sym, ◌∙◌, arith, Value, drop-cons, drop_all}

-- from a place on each item, as it is bound, is one of these
abbrev pub AreFrom : List Value → ℕ → List Value → Type 0
AreFrom values i [] = Unit {0}
AreFrom values i (v ∷ vs) = ((bound : Value) × (bound ≡ get_or values i bound) × (bound ≡ v)) × AreFrom values (suc i) vs

-- so they are all of the list
pub all_items : (values vs : List Value) (i : ℕ) → length values ≡ i + length vs → AreFrom values i vs → drop i values ≡ vs
all_items values [] i long are = drop_all i values (omega (arith, long))
all_items values (v ∷ vs) i long are = drop-cons values i are.0.0 (omega (arith, long)) ∙ (λ j. (sym are.0.1 ∙ are.0.2) j ∷ all_items values vs (suc i) (omega (arith, long)) are.1 j)
