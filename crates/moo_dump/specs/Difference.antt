-- Where two texts differ.
use Rattle.std.specs.Prelude.{◌≡◌, ◌≢◌, ◌≤◌, ℕ, List, length, take, slice_get}
use Rattle.moo_dump.specs.declared.comparing.CompareFault.{CompareFault}
use Rattle.moo_dump.specs.declared.comparing.CompareFault.TheVariants.{Differs, OutOfMemory}

-- the texts are the same up to a place, where one of them ends or the next bytes differ
pub record PartAt (first second : List ℕ) (place : ℕ) : Type 0 where
  pub within : place ≤ length second
  pub same : take place first ≡ take place second
  pub next : slice_get first place ≢ slice_get second place

-- the place that a fault names is that of the first difference
abbrev pub TellsDifference : List ℕ → List ℕ → CompareFault → Type 0
TellsDifference first second (Differs place) = PartAt first second place
TellsDifference first second OutOfMemory = Unit {0}
