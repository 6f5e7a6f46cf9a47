-- How a failure is reported.
use Rattle.std.{proofs.Common.{◌≡◌, ◌⊎◌, inl, inr, ℕ, List, Option, Result, Ok, Err, IfOk, subst₂}, specs.Prelude.{MatchResult}}
use Rattle.moo_run_lines.specs.{Lines.{WritesLine, word_of, status_of}, declared.failure.Failure.TheVariants.{OutOfMemory}}

-- a line that was made is written, or that memory ran out
pub writes_made : {A E : Type 0} (made : Result A E) (bytes : A → List ℕ) (line : List ℕ) (known wanted : ℕ) (old new : Option (List ℕ)) (status : ℕ)
    → known ≡ wanted → IfOk made (λ text. bytes text ≡ line)
    → MatchResult made (λ text. WritesLine (bytes text) known old new status) (λ _. WritesLine (word_of OutOfMemory) (status_of OutOfMemory) old new status)
    → WritesLine line wanted old new status ⊎ WritesLine (word_of OutOfMemory) (status_of OutOfMemory) old new status
writes_made (Ok text) bytes line known wanted old new status same is writes = inl (subst₂ (λ l k. WritesLine l k old new status) is same writes)
writes_made (Err e) bytes line known wanted old new status same is writes = inr writes
