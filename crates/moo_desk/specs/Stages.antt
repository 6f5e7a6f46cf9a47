-- The stages of a connection whose request was judged.
use Rattle.std.specs.Prelude.{◌≡◌, ◌⊎◌, ◌+◌, ◌/◌, ℕ, ⊤}
use Rattle.moo_arrivals.specs.declared.cause.Cause.{Cause}
use Rattle.moo_desk.specs.{declared.leaving.TheConstants.{PATIENCE, MEGABYTE, LINGER}, declared.leaving.Stage.{Stage}}
use Rattle.moo_desk.specs.declared.leaving.Stage.TheVariants.{Sending, Lingering, Done, Lost}

-- all of its answer was sent
abbrev pub IsSentAt : Stage → Type 0
IsSentAt Sending = ⊥
IsSentAt Lingering = ⊤
IsSentAt Done = ⊤
IsSentAt (Lost cause) = ⊥

-- A stage may be followed by another: an answer that is being sent may be sent whole or be lost, and a peer is listened to for a while at
-- most. What is done or lost stays so.
abbrev pub MayFollow : Stage → Stage → Type 0
MayFollow Sending new = ⊤
MayFollow Lingering new = (new ≡ Lingering) ⊎ (new ≡ Done)
MayFollow Done new = new ≡ Done
MayFollow (Lost cause) new = new ≡ Lost cause

-- how many bytes of an answer are held at a stage, of so many that weren't sent
abbrev pub unsent_at : Stage → ℕ → ℕ
unsent_at Sending unsent = unsent
unsent_at Lingering unsent = 0
unsent_at Done unsent = 0
unsent_at (Lost cause) unsent = 0

-- the stage of a connection that is given up for a cause, by the stage at which it was
abbrev pub ended : Cause → Stage → Stage
ended cause Sending = Lost cause
ended cause Lingering = Done
ended cause Done = Done
ended cause (Lost earlier) = Lost earlier

-- For how many seconds an answer of so many bytes may be sent, or a peer may be listened to.
abbrev pub patience_of : Stage → ℕ → ℕ
patience_of Sending bytes = PATIENCE + bytes / MEGABYTE
patience_of Lingering bytes = LINGER
patience_of Done bytes = 0
patience_of (Lost cause) bytes = 0
