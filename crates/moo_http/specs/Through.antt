-- What passes between a peer and the service through a desk, which gathers a request before it is judged and sends the answer after that.
use Rattle.std.specs.{Prelude.{◌≡◌, ◌⊎◌, ℕ, List, [], Ok, Err}, Io.KnownBytes.{Keeps, Appends, append_known, prepend_known}}
use Rattle.moo_store.specs.Place.{Place}
use Rattle.moo_http.specs.{Traffic.{Traffic}, Turns.{Exchanged, Yields}, declared.fault.ServeFault.{ServeFault}}
use Rattle.moo_http.specs.declared.fault.ServeFault.TheVariants.{Read, Write, OutOfMemory}

-- The bytes of a connection as its peer sees them and as its judge does, and those of the answer that wait to be sent. A desk between the
-- two gathers the request and sends the answer on: the judge reads the bytes of the peer, and what the writer took and what waits, joined,
-- is what the judge wrote.
pub record Passes (peer judge : Traffic) (unsent : List ℕ) : Type 0 where
  -- what was gathered, and then what the reader has: at first nothing was gathered
  pub gathered : Keeps (prepend_known [] peer.left) judge.left
  pub rest : peer.rest ≡ judge.rest
  -- what the writer took, and then what waits to be sent: at first nothing waits
  pub fresh : Keeps (append_known peer.before []) judge.before
  pub sent : Keeps judge.after (append_known peer.after unsent)
  -- a writer only takes more
  pub front : (bytes : List ℕ) × Appends peer.before peer.after bytes

-- What came of a connection that met a fault, as its peer sees it: as `Exchanged`, where what is known of its bytes stays as it was.
abbrev pub FailedThrough : ServeFault → Place → Place → Traffic → Type 0
FailedThrough Write from to peer = Exchanged (Err Write) from to peer
FailedThrough Read from to peer = (to ≡ from) × Keeps peer.before peer.after
FailedThrough OutOfMemory from to peer =
    Keeps peer.before peer.after × ((to ≡ from) ⊎ ((output : List ℕ) × Yields from to peer output))

-- If nothing is left to be sent of an answer that was written whole, the peer got all of it.
abbrev pub AnswersPass : Type 0
AnswersPass = (from to : Place) (peer judge : Traffic) → Passes peer judge [] → Exchanged (Ok tt) from to judge →
    Exchanged (Ok tt) from to peer

-- If something is left to be sent of an answer that was written whole, the peer got the beginning of it.
abbrev pub FrontsPass : Type 0
FrontsPass = (from to : Place) (peer judge : Traffic) (unsent : List ℕ) → Passes peer judge unsent →
    Exchanged (Ok tt) from to judge → Exchanged (Err Write) from to peer

-- If a connection met a fault, its peer got the beginning of the answer (Write), or nothing of it (Read and OutOfMemory).
abbrev pub FaultsPass : Type 0
FaultsPass = (fault : ServeFault) (from to : Place) (peer judge : Traffic) (unsent : List ℕ) → Passes peer judge unsent →
    Exchanged (Err fault) from to judge → FailedThrough fault from to peer
