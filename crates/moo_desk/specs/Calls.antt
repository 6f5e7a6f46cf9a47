-- The calls on sockets that a gate makes, and what it makes of them.
use Rattle.std.specs.Prelude.{◌≡◌, ◌≢◌, ◌⊎◌, ◌^◌, ◌-◌, ℕ, ℤ, pos, Bool, true, false, List, map, Option, Some, None, Result, Ok, Err}
use Rattle.std.specs.{IoError.{error_kind, raw_os_error}, declared.io.Error.{Error}, declared.io.ErrorKind.TheVariants.{WouldBlock}}
use Rattle.std.specs.declared.time.Duration.{Duration}
use Rattle.mio.specs.{Event.{event_token}, Interest.{is_readable, is_writable}, declared.event.event.Event.{Event}}
use Rattle.mio.specs.declared.interest.Interest.{Interest}
use Rattle.moo_desk.specs.{declared.gate.Taken.{Taken}, declared.gate.Taken.TheVariants.{Came, Nobody, NoRoom, Failed}}
use Rattle.moo_desk.specs.declared.gate.TheConstants.{NEWS}

-- A connection is accepted; it is told not to wait; its reader and its writer are made of it; the source of this number is watched under a
-- mark, as a new one or as one that was watched before; a wait of so long at most ends with these events. Each has what came of it.
pub data SocketCall (K R W : Type 0) : Type 0 where
  accepts : Result K Error → SocketCall K R W
  unblocks : K → Bool → SocketCall K R W
  splits : K → Option (R × W) → SocketCall K R W
  registers : ℤ → ℕ → Interest → Bool → SocketCall K R W
  reregisters : ℤ → ℕ → Interest → Bool → SocketCall K R W
  polls : Duration → List Event → SocketCall K R W

-- the system has no room for another open file: of this program, or of all
abbrev pub IsNoFile : Error → Type 0
IsNoFile error = (raw_os_error error ≡ Some (pos 24)) ⊎ (raw_os_error error ≡ Some (pos 23))

-- what a gate says if none could be accepted, by the error: nobody is there, the system has no room for one, or one is lost
abbrev pub SaysWhy : {R W : Type 0} → Error → Taken R W → Type 0
SaysWhy error (Came from to is_limited) = ⊥
SaysWhy error Nobody = error_kind error ≡ WouldBlock
SaysWhy error NoRoom = IsNoFile error
SaysWhy error Failed = (error_kind error ≢ WouldBlock) × ¬ (IsNoFile error)

-- the marks of these events
abbrev pub marks_of : List Event → List ℕ
marks_of events = map (λ event. (event_token event).0) events

-- an interest in bytes that come and, if `writes`, in room for more to write
abbrev pub IsFor : Bool → Interest → Type 0
IsFor writes interest = (is_readable interest ≡ true) × (is_writable interest ≡ writes)

module _ {S K R W : Type 0} (does : S → SocketCall K R W → S → Type 0) where
  -- A source is registered under this mark, for bytes and, if `writes`, for room to write. It is watched then, or isn't.
  abbrev pub Watches : ℤ → ℕ → Bool → Bool → S → S → Type 0
  Watches number mark writes did old new = (interest : Interest) × IsFor writes interest × does old (registers number mark interest did) new

  -- A source is watched under this mark in place of an earlier one, if it has one, or isn't.
  abbrev pub WatchesAnew : ℤ → ℕ → Bool → Bool → S → S → Type 0
  WatchesAnew number mark writes did old new = (interest : Interest) × IsFor writes interest
      × (((did ≡ true) × does old (reregisters number mark interest true) new)
      ⊎ ((between : S) × does old (reregisters number mark interest false) between × does between (registers number mark interest did) new))

  -- The gate may ask for a connection: none was taken since the last wait, or the listener couldn't be watched anew.
  abbrev pub Asks : ℤ → Bool → S → S → Type 0
  Asks listener has_taken old new = ((has_taken ≡ false) × (new ≡ old)) ⊎ ((has_taken ≡ true) × WatchesAnew listener NEWS false false old new)

  -- the next connection was accepted, and told not to wait, and this was made of it
  abbrev pub AcceptsOne : Bool → Option (R × W) → S → S → Type 0
  AcceptsOne is_limited both old new = (socket : K) × (first second : S) × does old (accepts (Ok socket)) first
      × does first (unblocks socket is_limited) second × does second (splits socket both) new

  -- none was accepted, and this is said of it
  abbrev pub AcceptsNone : Taken R W → S → S → Type 0
  AcceptsNone taken old new = (error : Error) × SaysWhy error taken × does old (accepts (Err error)) new

  -- What a gate says of the next connection, of which so many came before: nobody only if one was taken since the last wait, or none is
  -- there; no room only if the system has none, or they can't be counted; failed only if it failed otherwise, or memory ran out.
  abbrev pub TakesSocket : ℤ → ℕ → Bool → S → Taken R W → S → Type 0
  TakesSocket listener gave has_taken old (Came from to is_limited) new =
      (asked : S) × Asks listener has_taken old asked × AcceptsOne is_limited (Some (from, to)) asked new
  TakesSocket listener gave has_taken old Nobody new =
      ((has_taken ≡ true) × WatchesAnew listener NEWS false true old new)
      ⊎ ((asked : S) × Asks listener has_taken old asked × AcceptsNone Nobody asked new)
  TakesSocket listener gave has_taken old NoRoom new =
      ((gave ≡ 2 ^ 64 - 1) × (new ≡ old))
      ⊎ ((asked : S) × Asks listener has_taken old asked × AcceptsNone NoRoom asked new)
  TakesSocket listener gave has_taken old Failed new =
      (asked : S) × Asks listener has_taken old asked
      × (AcceptsNone Failed asked new ⊎ ((is_limited : Bool) × AcceptsOne is_limited None asked new))

  -- a wait tells the marks of its events
  abbrev pub WaitsFor : S → Duration → List ℕ → S → Type 0
  WaitsFor old most told new = (events : List Event) × does old (polls most events) new × (told ≡ marks_of events)
