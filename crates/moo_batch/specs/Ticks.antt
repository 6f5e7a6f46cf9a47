-- How many ticks are left after a batch.
use Rattle.std.specs.Prelude.{◌≡◌, ◌≢◌, ◌≤◌, ◌<◌, ℕ, Option, None, Some, [], ⊤}
use Rattle.moo_batch.specs.declared.judging.Verdict.{Verdict}
use Rattle.moo_batch.specs.declared.judging.Verdict.TheVariants.{Accepted, Refused, Full, Stale, OutOfMemory}

-- no ticks come back; without a bound there is no bound afterwards either
abbrev pub NoneComeBack : Option ℕ → Option ℕ → Type 0
NoneComeBack None new = new ≡ None
NoneComeBack (Some old) new = (left : ℕ) × (new ≡ Some left) × (left ≤ old)

-- one tick was taken at least; without a bound there is no bound afterwards either
abbrev pub TakesOne : Option ℕ → Option ℕ → Type 0
TakesOne None new = new ≡ None
TakesOne (Some old) new = (left : ℕ) × (new ≡ Some left) × (left < old)

-- the verdict says that a call was made; after a lack of memory it doesn't
abbrev pub HasMadeCall : Verdict → Type 0
HasMadeCall (Accepted answers changes) = answers ≢ []
HasMadeCall (Refused call code) = ⊤
HasMadeCall (Full call) = call ≢ 0
HasMadeCall (Stale seq) = ⊥
HasMadeCall OutOfMemory = ⊥

-- none come back, and one is taken at least if the verdict says that a call was made; without a bound there is no bound afterwards either
abbrev pub TakesTicks : Option ℕ → Option ℕ → Verdict → Type 0
TakesTicks None new verdict = new ≡ None
TakesTicks (Some old) new verdict = (left : ℕ) × (new ≡ Some left) × (left ≤ old) × (HasMadeCall verdict → left < old)
