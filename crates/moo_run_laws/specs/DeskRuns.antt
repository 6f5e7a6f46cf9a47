-- All turns of a desk, and its ledger.
use Rattle.std.specs.Prelude.{◌≡◌, ◌+◌, ◌≤◌, ◌<◌, ◌^◌, ℕ, ℤ, true, List, [], ◌∷◌, None, length}
use Rattle.std.specs.declared.io.Read as Reading
use Rattle.std.specs.declared.io.Write as Writing
use Rattle.moo_http_request.specs.declared.incoming.Incoming as Incoming
use Rattle.moo_desk.specs.declared.gate.Inward as Inward
use Rattle.moo_desk.specs.declared.gate.Outward as Outward
use Rattle.moo_desk.specs.{declared.held.Held.{Held}, declared.leaving.Leaving.{Leaving}, Deeds.{HoldsNone}}
use Rattle.moo_desk.specs.{Exchange.{Hands, GetsBack, TellsNext}, Read.{Gave}}
use Rattle.moo_run_laws.specs.Fates.{Call, calls_accept, calls_close, calls_settle, handed_in, missed_in, given_in, told_in, in_all}
use Rattle.moo_run_laws.specs.Fates.{AreGivenBack, Fate, Becomes, still_held, count_lost, count_noted}

module _ {R W : Type 0}
    {inward : Inward.Ghosts R} {incoming : Incoming.Ghosts R} {reader : Reading.Ghosts R} {outward : Outward.Ghosts W}
    {writer : Writing.Ghosts W} where
  -- What the clauses of a call let a desk do: what it holds, and how many connections its gate gave, before and after the call.
  abbrev pub Allows : Call R W → Held R W inward incoming reader outward writer × ℕ
      → Held R W inward incoming reader outward writer × ℕ → Type 0
  Allows (calls_accept handed) old new = Hands old handed new
  Allows (calls_close given closing route) old new = GetsBack old given closing route new
  Allows (calls_settle is_last told) old new = TellsNext old told new × (is_last ≡ true → new.0.leaving.items ≡ [])

  -- a desk from its start through these calls; the head of the list is the last one
  abbrev pub Runs : List (Call R W) → Held R W inward incoming reader outward writer × ℕ
      → Held R W inward incoming reader outward writer × ℕ → Type 0
  Runs [] first last = HoldsNone first.0 × (last ≡ first)
  Runs (call ∷ earlier) first last =
      (between : Held R W inward incoming reader outward writer × ℕ) × Runs earlier first between × Allows call between last

  -- The ledger of a desk after these calls. Each connection that the gate gave is still gathered, was handed out, or was lost as it came,
  -- in a call that hands out none. Each that was given back is still held, or all of its answer was sent, or it was lost, and never both.
  -- As many were lost as losses were told of, or are noted still.
  pub record DeskLedger (calls : List (Call R W)) (first last : Held R W inward incoming reader outward writer × ℕ) : Type 0 where
    pub missed : ℕ
    pub came : last.1 ≡ first.1 + (length last.0.slots.items + in_all handed_in calls + missed)
    pub few : missed ≤ in_all missed_in calls
    pub began : List (Leaving R W)
    pub fates : List (Fate R W)
    pub given : AreGivenBack calls began
    pub becomes : Becomes writer outward.peer began fates
    pub held : still_held fates ≡ last.0.leaving.items
    pub losses : count_lost fates ≡ in_all told_in calls + count_noted last.0.losses

  -- The ledger is closed: no connection is held that was given back, and as many losses were told of as answers were lost.
  abbrev pub IsClosed : (calls : List (Call R W)) (first last : Held R W inward incoming reader outward writer × ℕ)
      → DeskLedger calls first last → Type 0
  IsClosed calls first last ledger = (still_held ledger.fates ≡ []) × (count_lost ledger.fates ≡ in_all told_in calls)

-- a reader and a writer of a peer, by whose they are
module _ {R W : Type 0} (from : R → ℤ) (reads : R → Gave → R → Type 0) (fails : R → R → Type 0) (reader : Reading.Ghosts R) (to : W → ℤ)
    (writer : Writing.Ghosts W) where
  -- what a desk of theirs holds
  abbrev pub PeersHeld : Type 0
  PeersHeld = Held R W (record { peer = from; reads = reads }) (record { fails = fails }) reader (record { peer = to }) writer

  -- A desk keeps this ledger while fewer than 2 ^ 32 connections were given back; no service serves more.
  abbrev pub KeepsLedger : Type 0
  KeepsLedger = (calls : List (Call R W)) (first last : PeersHeld × ℕ) → Runs calls first last → in_all given_in calls < 2 ^ 32 →
      DeskLedger calls first last

  -- Once a last `settle` tells of no loss the ledger is closed.
  abbrev pub ClosesLedger : Type 0
  ClosesLedger = (calls : List (Call R W)) (first last : PeersHeld × ℕ) → Runs (calls_settle true None ∷ calls) first last →
      in_all given_in calls < 2 ^ 32 →
      (ledger : DeskLedger (calls_settle true None ∷ calls) first last) × IsClosed (calls_settle true None ∷ calls) first last ledger
