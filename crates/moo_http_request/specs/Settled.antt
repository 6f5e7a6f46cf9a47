-- What the first bytes of an input say, whichever bytes follow.
use Rattle.std.specs.{Prelude.{◌≡◌, ℕ, List, [], ◌++◌, Bool, true, Option}, Io.KnownBytes.{IsAtEnd}}

-- P holds of the bytes that were given with any bytes after them; or of them alone, if the reader has ended.
pub record Settles (left : Option (List ℕ)) (given : List ℕ) (P : List ℕ → Type 0) : Type 0 where
  pub ended : Bool
  pub at_end : ended ≡ true → IsAtEnd left
  pub holds : (rest : List ℕ) → (ended ≡ true → rest ≡ []) → P (given ++ rest)
