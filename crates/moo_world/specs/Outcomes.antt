-- What a call comes to. A call is its checks, in their order, and then its answer and what it leaves: the world, or, if it may be any call
-- of a batch, the whole state.
use Rattle.std.specs.Prelude.{ℕ, Bool, true, false, Option, Some, None, Result, Ok, Err}
use Rattle.moo_value.specs.{declared.value.Value.{Value}, declared.value.ObjNo.{ObjNo}, declared.code.Code.{Code}}
use Rattle.moo_world.specs.{declared.reason.Reason.{Reason}, declared.reason.Reason.TheVariants.{Given}}

-- Why a call fails: the check that fails first, with the numbers that it fails for. Of a call that a granted petition holds, its place
-- there, from 0.
pub record Failure : Type 0 where
  pub held : Option ℕ
  pub reason : Reason

-- the failure of a check of the call itself
abbrev pub of_itself : Reason → Failure
of_itself reason = record { held = None; reason = reason }

-- the failure of a call that a granted petition holds, at this place
abbrev pub in_petition : ℕ → Failure → Failure
in_petition place failure = record failure { held = Some place }

-- an answer and what is left, a check that fails, or no number left for what is made
pub data Outcome (S : Type 0) : Type 0 where
  Done : Value → S → Outcome S
  Failed : Failure → Outcome S
  Full : Outcome S

-- the check has to hold, or the call has this outcome
abbrev pub check : {S : Type 0} → Bool → Outcome S → Outcome S → Outcome S
check true failed rest = rest
check false failed rest = failed

-- the call fails at a check of its own
abbrev pub fails : {S : Type 0} → Reason → Outcome S
fails reason = Failed (of_itself reason)

-- what is given to a call, or the error that it isn't what the call takes
abbrev pub given : {A S : Type 0} → Result A Code → (A → Outcome S) → Outcome S
given (Ok arguments) rest = rest arguments
given (Err code) rest = fails (Given code)

-- what a value is taken for, or why it isn't taken
abbrev pub taken_for : {A S : Type 0} → Result A Reason → (A → Outcome S) → Outcome S
taken_for (Ok a) rest = rest a
taken_for (Err reason) rest = fails reason

-- the number of a new object, if one is left
abbrev pub with_next : {S : Type 0} → Option ObjNo → (ObjNo → Outcome S) → Outcome S
with_next None rest = Full
with_next (Some object) rest = rest object

-- what is there, or why the call fails
abbrev pub found_or : {A S : Type 0} → Option A → Reason → (A → Outcome S) → Outcome S
found_or None reason rest = fails reason
found_or (Some found) reason rest = rest found

-- ---- how the steps of a call are written, one to a line, in their order

-- what follows a step is done if the step lets it
abbrev pub ◌>>◌ : {R : Type 0} → (R → R) → R → R
◌>>◌ step rest = step rest

-- what follows a step gets what the step gives, if the step lets it
abbrev pub ◌>>=◌ : {A R : Type 0} → ((A → R) → R) → (A → R) → R
◌>>=◌ step rest = step rest

-- the fact has to hold, or the call fails for this reason
infix 5 require◌else◌
abbrev pub require◌else◌ : {S : Type 0} → Bool → Reason → Outcome S → Outcome S
require holds else reason = check holds (fails reason)

-- what is there, or the call fails for this reason
infix 5 ◌or_else◌
abbrev pub ◌or_else◌ : {A S : Type 0} → Option A → Reason → (A → Outcome S) → Outcome S
found or_else reason = found_or found reason

-- a number has to be left
abbrev pub require_room : {S : Type 0} → Bool → Outcome S → Outcome S
require_room is_left = check is_left Full
