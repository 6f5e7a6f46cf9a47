-- What passes between a peer and the service through a desk.
use Rattle.std.specs.{Prelude.{◌≡◌, ◌⊎◌, ℕ, ℤ, List, length, Ok, Err}, Io.KnownBytes.{Appends}}
use Rattle.std.specs.declared.io.Read as Reading
use Rattle.std.specs.declared.io.Write as Writing
use Rattle.moo_arrivals.specs.{declared.arrivals.Closing.{Closing}, declared.arrivals.Connection.{Connection}, declared.route.Route.{Route}}
use Rattle.moo_http_request.specs.Given.{HasFailed}
use Rattle.moo_http_request.specs.declared.incoming.Incoming as Incoming
use Rattle.moo_desk.specs.declared.gate.Inward as Inward
use Rattle.moo_desk.specs.declared.gate.Outward as Outward
use Rattle.moo_desk.specs.{declared.gathered.Coming.TheVariants.{Unread}, declared.gathered.Gathered.{Gathered}}
use Rattle.moo_desk.specs.{declared.leaving.Leaving.{Leaving}, declared.outgoing.Outgoing.{Outgoing}, declared.slot.Slot.{Slot}}
use Rattle.moo_desk.specs.{Deeds.{IsFresh}, Exchange.{Begins, IsHandedOut}, Later.{IsGathered, IsLater}, Read.{Gave}}
use Rattle.moo_store.specs.Place.{Place}
use Rattle.moo_http.specs.{Traffic.{Traffic, traffic_of}, Turns.{Exchanged}, Through.{FailedThrough}}
use Rattle.moo_http.specs.{declared.fault.ServeFault.{ServeFault}, declared.fault.ServeFault.TheVariants.{Write}}

-- A connection as it came to a desk, and was gathered; as it was handed out and given back; and as it is held after that, and later. These
-- are the steps that `accept`, `close` and `settle` of a desk allow (`Hands`, `GetsBack`, `TellsNext`).
pub record PassesDesk {R W : Type 0}
    {inward : Inward.Ghosts R} {incoming : Incoming.Ghosts R} {reader : Reading.Ghosts R} {outward : Outward.Ghosts W}
    {writer : Writing.Ghosts W}
    (came slot : Slot R W inward incoming reader outward writer) (opened closed : Connection (Gathered R) (Outgoing W))
    (back last : Leaving R W) : Type 0 where
  pub fresh : IsFresh came
  pub gathers : IsGathered came slot
  pub handed : IsHandedOut slot opened
  pub given : (closing : Closing) × (route : Route) × Begins closed closing route back
  pub sends : IsLater writer outward.peer back last
  -- the service gives back the writer that it was given, and a writer only takes more
  pub kept : outward.peer closed.writer.writer ≡ outward.peer opened.writer.writer
  pub front : (bytes : List ℕ) × Appends (writer.contents came.writer.writer) (writer.contents last.writer.writer) bytes

module _ {R W : Type 0}
    {inward : Inward.Ghosts R} {incoming : Incoming.Ghosts R} {reader : Reading.Ghosts R} {outward : Outward.Ghosts W}
    {writer : Writing.Ghosts W} where
  -- whoever gets the answer is who asked
  abbrev pub IsAsker : Slot R W inward incoming reader outward writer → Leaving R W → Type 0
  IsAsker came last = outward.peer last.writer.writer ≡ inward.peer came.reader.reader

  -- what the peer of the connection that came sees of it
  abbrev pub peer_of : Reading.Ghosts (Gathered R) → Slot R W inward incoming reader outward writer → Connection (Gathered R)
      (Outgoing W) → Leaving R W → Traffic
  peer_of gathered came closed last = record {
    left = reader.remaining came.reader.reader;
    rest = gathered.remaining closed.reader;
    before = writer.contents came.writer.writer;
    after = writer.contents last.writer.writer;
  }

-- a reader and a writer of a peer, by whose they are, and what a desk makes of them
module _ {R W : Type 0} (from : R → ℤ) (reads : R → Gave → R → Type 0) (fails : R → R → Type 0) (reader : Reading.Ghosts R)
    (gathered : Reading.Ghosts (Gathered R)) (to : W → ℤ) (writer : Writing.Ghosts W) (outgoing : Writing.Ghosts (Outgoing W)) where
  -- a connection whose request is gathered, with these words for its reader and its writer
  abbrev pub PeerSlot : Type 0
  PeerSlot = Slot R W (record { peer = from; reads = reads }) (record { fails = fails }) reader (record { peer = to }) writer

  -- An answer that was sent whole is the answer to what its peer asked.
  abbrev pub DeskAnswers : Type 0
  DeskAnswers = (before after : Place) (came slot : PeerSlot) (opened closed : Connection (Gathered R) (Outgoing W)) →
      (back last : Leaving R W) → PassesDesk came slot opened closed back last → last.writer.sent ≡ length last.writer.text.items →
      Exchanged (Ok tt) before after (traffic_of gathered outgoing opened closed) →
      Exchanged (Ok tt) before after (peer_of gathered came closed last) × IsAsker came last

  -- Of an answer that wasn't all sent, its peer has a front.
  abbrev pub DeskFronts : Type 0
  DeskFronts = (before after : Place) (came slot : PeerSlot) (opened closed : Connection (Gathered R) (Outgoing W)) →
      (back last : Leaving R W) → PassesDesk came slot opened closed back last →
      Exchanged (Ok tt) before after (traffic_of gathered outgoing opened closed) →
      Exchanged (Err Write) before after (peer_of gathered came closed last) × IsAsker came last

  -- If the service met a fault, the peer sees what belongs to that fault.
  abbrev pub DeskFaults : Type 0
  DeskFaults = (fault : ServeFault) (before after : Place) (came slot : PeerSlot) →
      (opened closed : Connection (Gathered R) (Outgoing W)) (back last : Leaving R W) → PassesDesk came slot opened closed back last →
      Exchanged (Err fault) before after (traffic_of gathered outgoing opened closed) →
      FailedThrough fault before after (peer_of gathered came closed last) × IsAsker came last

-- If the reader of a desk failed, that of its peer failed in it, or what comes of the peer isn't read any more.
abbrev pub DeskCauses : {R : Type 0} → (R → R → Type 0) → (Gathered R → Gathered R → Type 0) → Type 0
DeskCauses {R} fails broken = (last : Gathered R) → HasFailed broken last → HasFailed fails last.reader ⊎ (last.coming ≡ Unread)
