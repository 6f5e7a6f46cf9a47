-- A connection of a desk, and the same one later.
use Rattle.std.specs.{Prelude.{◌≡◌, ℤ, true, drop}, Io.KnownBytes.{Keeps, append_known, prepend_known}}
use Rattle.std.specs.declared.io.Read as Reading
use Rattle.std.specs.declared.io.Write as Writing
use Rattle.moo_http_request.specs.declared.incoming.Incoming as Incoming
use Rattle.moo_desk.specs.declared.gate.Inward as Inward
use Rattle.moo_desk.specs.declared.gate.Outward as Outward
use Rattle.moo_desk.specs.{declared.gathered.Gathered.{Gathered}, declared.leaving.Leaving.{Leaving}, declared.outgoing.Outgoing.{Outgoing}}
use Rattle.moo_desk.specs.{declared.slot.Slot.{Slot}, Stages.{MayFollow}}

-- More of a request was gathered: the bytes gathered and not read yet, and then those that the reader still has, are the same as before.
abbrev pub GathersOn : {R : Type 0} → Reading.Ghosts R → Gathered R → Gathered R → Type 0
GathersOn reader old new =
    Keeps (prepend_known (drop old.at old.bytes.items) (reader.remaining old.reader))
    (prepend_known (drop new.at new.bytes.items) (reader.remaining new.reader))

-- More of an answer was sent: it is the same answer, and what its peer took of it and then what waits to be sent stays the same.
abbrev pub SendsOn : {W : Type 0} → Writing.Ghosts W → Outgoing W → Outgoing W → Type 0
SendsOn writer old new =
    (new.text.items ≡ old.text.items)
    × Keeps (append_known (writer.contents old.writer) (drop old.sent old.text.items))
    (append_known (writer.contents new.writer) (drop new.sent new.text.items))

module _ {R W : Type 0}
    {inward : Inward.Ghosts R} {incoming : Incoming.Ghosts R} {reader : Reading.Ghosts R} {outward : Outward.Ghosts W}
    {writer : Writing.Ghosts W} where
  -- The bytes of a request, its writer, its times, its mark and its cause stay, as does whether it is to be handed out. If it was due, it
  -- still is.
  pub record IsOnlyWoken (old new : Slot R W inward incoming reader outward writer) : Type 0 where
    pub halves : (new.reader ≡ old.reader) × (new.writer ≡ old.writer) × (new.is_limited ≡ old.is_limited)
    pub ends : (new.rests ≡ old.rests) × (new.cause ≡ old.cause)
    pub times : (new.since ≡ old.since) × (new.heard ≡ old.heard) × (new.looked ≡ old.looked)
    pub due : (new.mark ≡ old.mark) × (old.is_due ≡ true → new.is_due ≡ true)

  -- A connection whose request is gathered, and that connection later. Once it is to be handed out nothing more is read of it, and it isn't
  -- given up.
  pub record IsGathered (old new : Slot R W inward incoming reader outward writer) : Type 0 where
    pub request : GathersOn reader old.reader new.reader
    pub peer : inward.peer new.reader.reader ≡ inward.peer old.reader.reader
    pub answer : new.writer ≡ old.writer
    pub limited : new.is_limited ≡ old.is_limited
    pub since : new.since ≡ old.since
    pub rests : old.rests ≡ true → (new.rests ≡ true) × (new.reader ≡ old.reader) × (new.cause ≡ old.cause)

-- A connection whose request was judged, and that connection later, with its answer to this peer. An answer that was sent whole isn't lost
-- later, and an answer that is lost stays so.
pub record IsLater {R W : Type 0} (writer : Writing.Ghosts W) (to : W → ℤ) (old new : Leaving R W) : Type 0 where
  pub answer : SendsOn writer old.writer new.writer
  pub peer : to new.writer.writer ≡ to old.writer.writer
  pub route : new.route ≡ old.route
  pub stage : MayFollow old.stage new.stage
