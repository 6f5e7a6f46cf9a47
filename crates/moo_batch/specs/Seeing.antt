-- What a witness keeps of a batch that is judged.
use Rattle.std.specs.Prelude.{◌≡◌, ℕ, Option, IfSome}
use Rattle.moo_rows.specs.Maps.{Maps}
use Rattle.moo_value.specs.declared.code.Code.{Code}
use Rattle.moo_world.specs.{declared.call.Batch.{Batch}, Judge.{FailedAt, run_calls, state_of}, Reasons.{error_of}}
use Rattle.moo_batch.specs.declared.judging.Verdict.{Verdict}
use Rattle.moo_batch.specs.declared.judging.Verdict.TheVariants.{Accepted, Refused, Full, Stale, OutOfMemory}
use Rattle.moo_batch.specs.{declared.witness.Facts.{Facts}, declared.witness.Refusal.{Refusal}, Facts.{AreFactsOf}, Judge.{failure_of}}

-- the refusal is that of the batch on these rows: its first call that fails, and why
abbrev pub IsRefusalOf : Maps → Batch → Refusal → Type 0
IsRefusalOf maps batch refusal = run_calls (state_of maps) batch.programmer batch.calls ≡ FailedAt refusal.call (failure_of refusal)

-- One refusal is seen, the refusal of the batch: of this call and with this error. All that is told of the rows are its facts, or nothing.
-- `kept` and `next` are what the witness keeps before and after.
abbrev pub HasSeenRefusal : {Kept : Type 0} → (Kept → Batch → Refusal → Option Facts → Kept → Type 0) → Maps → Batch → ℕ → Code → Kept → Kept
    → Type 0
HasSeenRefusal sees maps batch call code kept next = (refusal : Refusal) × (refusal.call ≡ call) × (error_of refusal.reason ≡ code)
    × IsRefusalOf maps batch refusal
    × (facts : Option Facts) × IfSome facts (AreFactsOf maps batch refusal) × sees kept batch refusal facts next

-- Of a batch that is refused its one refusal is seen, and of another none.
abbrev pub HasSeen : {Kept : Type 0} → (Kept → Batch → Refusal → Option Facts → Kept → Type 0) → Maps → Batch → Verdict → Kept → Kept → Type 0
HasSeen sees maps batch (Accepted answers changes) kept next = next ≡ kept
HasSeen sees maps batch (Refused call code) kept next = HasSeenRefusal sees maps batch call code kept next
HasSeen sees maps batch (Full call) kept next = next ≡ kept
HasSeen sees maps batch (Stale seq) kept next = next ≡ kept
HasSeen sees maps batch OutOfMemory kept next = next ≡ kept
