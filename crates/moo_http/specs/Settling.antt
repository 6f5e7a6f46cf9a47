-- Connections whose answers were lost after their turns.
use Rattle.std.specs.Prelude.{◌≡◌, ◌+◌, ◌⊎◌, ℕ, zero, suc, Option, Some, None}
use Rattle.moo_arrivals.specs.declared.cause.Loss.{Loss}

module _ {A : Type 0} (loses : A → Option Loss → A → Type 0) where
  -- A source was asked once for a connection whose answer was lost, where so many counted as answered and so many as failed. One that it
  -- tells of counts as failed, and no more as answered. Or the source wasn't asked.
  abbrev pub TellsLoss : A → ℕ → ℕ → A → ℕ → ℕ → Type 0
  TellsLoss from answered failed to left lost =
      ((to ≡ from) × (left ≡ answered) × (lost ≡ failed))
      ⊎ ((loses from None to × (left ≡ answered) × (lost ≡ failed))
      ⊎ ((loss : Loss) × loses from (Some loss) to × (answered ≡ left + 1) × (lost ≡ failed + 1)))

  -- A source was asked so often for a connection whose answer was lost, one time after another.
  abbrev pub TellsLosses : ℕ → A → ℕ → ℕ → A → ℕ → ℕ → Type 0
  TellsLosses zero from answered failed to left lost = (to ≡ from) × (left ≡ answered) × (lost ≡ failed)
  TellsLosses (suc n) from answered failed to left lost =
      (between : A) × (some more : ℕ) × TellsLosses n from answered failed between some more × TellsLoss between some more to left lost

  -- none counts as answered, or the source was asked for a lost answer and told of none
  abbrev pub HasNoneLeft : ℕ → A → Type 0
  HasNoneLeft answered to = (answered ≡ 0) ⊎ ((from : A) × loses from None to)
