-- What reading takes from a reader, if it tells its bytes.
use Rattle.std.specs.{Prelude.{◌≡◌, ◌≤◌, ℕ, List, ◌++◌, length, Option}, Io.KnownBytes.{Consumes}}

-- the reader gave some bytes, which are after those that were there before
pub record Grows (old new : Option (List ℕ)) (before behind : List ℕ) : Type 0 where
  pub given : List ℕ
  pub known : Consumes old new given
  pub grown : behind ≡ before ++ given

-- the reader gave some bytes, so many at most
pub record TakesAtMost (most : ℕ) (old new : Option (List ℕ)) : Type 0 where
  pub given : List ℕ
  pub known : Consumes old new given
  pub few : length given ≤ most

-- a read of the reader failed, and it is as that read left it
abbrev pub HasFailed : {R : Type 0} → (R → R → Type 0) → R → Type 0
HasFailed {R} fails reader = (before : R) × fails before reader
