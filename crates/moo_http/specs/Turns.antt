-- The connections that a source hands out, served one after another.
use Rattle.std.specs.Prelude.{◌≡◌, ◌⊎◌, ◌+◌, ℕ, suc, List, [], ◌∷◌, take, Option, Some, None, Result, Ok, Err, Bool, true, false}
use Rattle.std.specs.Io.KnownBytes.{Appends}
use Rattle.std.specs.declared.io.Read as Reading
use Rattle.std.specs.declared.io.Write as Writing
use Rattle.moo_store.specs.Place.{Place}
use Rattle.moo_http_request.specs.{Given.{HasFailed}, Request.{Takes}, declared.request.Received.{Received}}
use Rattle.moo_arrivals.specs.declared.arrivals.Arrivals as Arrivals
use Rattle.moo_arrivals.specs.{declared.arrivals.Connection.{Connection}, declared.cause.Loss.{Loss}}
use Rattle.moo_http.specs.{declared.fault.ServeFault.{ServeFault}, declared.fault.ServeFault.TheVariants.{Read, Write, OutOfMemory}}
use Rattle.moo_http.specs.{declared.service.ServiceFault.{ServiceFault}, declared.service.ServiceFault.TheVariants.{Port}}
use Rattle.moo_http.specs.declared.ports.Ports as Ports
use Rattle.moo_http.specs.{Traffic.{Traffic, traffic_of}, Serves.{Gets}, Connections.{SaysAll, SaysByResult}, Settling.{HasNoneLeft}}

-- ---- one connection

-- The reader gave some bytes, and this is the whole answer to what they ask, which leads from one place to the next.
abbrev pub Yields : Place → Place → Traffic → List ℕ → Type 0
Yields from to bytes output = (received : Received) × Takes bytes.left bytes.rest received × Gets from received output to

-- What came of a connection, by the result: the answer is written whole; or the beginning of it, if the writer failed; or nothing was asked
-- or written, if the reader failed; or nothing is written, if memory was refused before the World was asked or after that.
abbrev pub Exchanged : Result (Unit {0}) ServeFault → Place → Place → Traffic → Type 0
Exchanged (Ok done) from to bytes = (output : List ℕ) × Yields from to bytes output × Appends bytes.before bytes.after output
Exchanged (Err Write) from to bytes =
    (output : List ℕ) × Yields from to bytes output × (sent : ℕ) × Appends bytes.before bytes.after (take sent output)
Exchanged (Err Read) from to bytes = (to ≡ from) × (bytes.after ≡ bytes.before)
Exchanged (Err OutOfMemory) from to bytes =
    (bytes.after ≡ bytes.before) × ((to ≡ from) ⊎ ((output : List ℕ) × Yields from to bytes output))

-- What came of a connection, by whether it was answered. If it failed since its request is unread, `Unread` holds.
abbrev pub Visited : Type 0 → Bool → Place → Place → Traffic → Type 0
Visited Unread true from to bytes = Exchanged (Ok tt) from to bytes
Visited Unread false from to bytes = (fault : ServeFault) × (fault ≡ Read → Unread) × Exchanged (Err fault) from to bytes

-- ---- ports

-- What came of the ports, from what they were to what they are.
pub record Attendance : Type 1 where
  -- This port was listened on, so many of the connections to it were answered and so many failed, which led from a place to another; and
  -- its source was closed. Nothing else was asked of the ports.
  pub attends : ℕ → ℕ → ℕ → Place → Place → Type 0
  -- this port couldn't be listened on
  pub refuses : ℕ → Type 0
  -- none was listened on
  pub rests : Type 0

-- ---- a source of connections

-- What happens at a source: a connection has its turn, and is answered or not; or the source is asked for a connection whose answer was
-- lost after its turn, and tells of one or of none.
pub data Happening : Type 0 where
  visit : Bool → Happening
  settle : Option Loss → Happening

-- how many turns of connections ended with an answer
abbrev pub answered_in : List Happening → ℕ
answered_in [] = 0
answered_in (visit true ∷ turns) = suc (answered_in turns)
answered_in (turn ∷ turns) = answered_in turns

-- how many turns of connections ended without an answer
abbrev pub failed_in : List Happening → ℕ
failed_in [] = 0
failed_in (visit false ∷ turns) = suc (failed_in turns)
failed_in (turn ∷ turns) = failed_in turns

-- of how many connections whose answers were lost the source told
abbrev pub lost_in : List Happening → ℕ
lost_in [] = 0
lost_in (settle (Some loss) ∷ turns) = suc (lost_in turns)
lost_in (turn ∷ turns) = lost_in turns

-- a source of connections, by what it is before and after it hands one out and takes one back, by the bytes that are known of them, and by
-- when a reader of them fails
module _ {A R W : Type 0} (source : Arrivals.Ghosts A R W) (reader : Reading.Ghosts R) (fails : R → R → Type 0)
    (writer : Writing.Ghosts W) where
  -- One turn, by whether a connection was answered: the source hands one out, which is visited, and takes it back; or it hands out none. A
  -- connection whose waits have no limit isn't read, and nothing is written to it; another is unread only if its reader failed, and was
  -- left so.
  abbrev pub Visit : Bool → A → Place → A → Place → Type 0
  Visit answered old from new to =
      ((opened closed : Connection R W) × (between : A) × source.hands_out old (Some opened) between
      × Visited (HasFailed fails closed.reader ⊎ (opened.is_limited ≡ false)) answered from to (traffic_of reader writer opened closed)
      × source.takes_back between closed new
      × (opened.is_limited ≡ false → (answered ≡ false) × (to ≡ from) × (closed ≡ opened)))
      ⊎ ((answered ≡ false) × (to ≡ from) × source.hands_out old None new)

  -- what happens at the source; where it is only asked for a lost answer, the World isn't
  abbrev pub Happens : Happening → A → Place → A → Place → Type 0
  Happens (visit answered) old from new to = Visit answered old from new to
  Happens (settle told) old from new to = source.loses old told new × (to ≡ from)

  -- turns one after another, each of which leads on; the head of the list tells the last one
  abbrev pub AfterTurns : List Happening → A → Place → A → Place → Type 0
  AfterTurns [] old from new to = (new ≡ old) × (to ≡ from)
  AfterTurns (turn ∷ earlier) old from new to =
      (between : A) × (mid : Place) × AfterTurns earlier old from between mid × Happens turn between mid new to

  -- After turns of which so many were answered, and so many failed. One whose answer was lost after its turn has failed.
  abbrev pub Attended : ℕ → ℕ → A → Place → A → Place → Type 0
  Attended answered failed old from new to =
      (turns : List Happening) × (answered_in turns ≡ answered + lost_in turns) × (failed_in turns + lost_in turns ≡ failed)
      × AfterTurns turns old from new to

  -- After all turns: at last the source told of no lost answer, unless none of so many counts as answered.
  abbrev pub AttendsAll : ℕ → ℕ → A → Place → A → Place → Type 0
  AttendsAll answered failed old from new to = Attended answered failed old from new to × HasNoneLeft source.loses answered new

  -- What comes of a service over one source, by its result: its turns lead from place to place, and its two lines are written, or the
  -- beginning of them.
  abbrev pub ServesFrom : Result (Unit {0}) ServiceFault → ℕ → ℕ → A → Place → A → Place → Option (List ℕ) → Option (List ℕ) → Type 0
  ServesFrom result port count old from new to before after =
      SaysByResult (λ answered failed. AttendsAll answered failed old from new to) ((new ≡ old) × (to ≡ from)) result port count before after

  -- What came of the ports, from these to those, by what they are before and after one is listened on and its source is closed.
  abbrev pub attended_between : {P : Type 0} → Ports.Ghosts P A R W → P → P → Attendance
  attended_between {P} ports before after = record {
    attends = λ port answered failed from to. (between : P) × (old new : A)
        × ports.listens before port (Some old) between × AttendsAll answered failed old from new to
        × ports.closes between new after;
    refuses = λ port. ports.listens before port None after;
    rests = after ≡ before;
  }

-- ---- a port

-- this text says how many of so many connections to a port were answered, and how many failed
abbrev pub SaysAttended : Attendance → ℕ → ℕ → Place → Place → List ℕ → Type 0
SaysAttended ports port count from to text = SaysAll (λ answered failed. ports.attends port answered failed from to) port count text

-- What comes of the service on a port, by its result. If the port can't be listened on, nothing else is asked of the ports. If the output
-- fails or memory runs out before the first connection, none is taken.
abbrev pub ServesOn : Attendance → Result (Unit {0}) ServiceFault → ℕ → ℕ → Place → Place → Option (List ℕ) → Option (List ℕ) → Type 0
ServesOn ports (Err Port) port count from to before after = (to ≡ from) × ports.refuses port × (after ≡ before)
ServesOn ports result port count from to before after =
    SaysByResult (λ answered failed. ports.attends port answered failed from to)
    ((to ≡ from) × ports.attends port 0 0 from to) result port count before after
