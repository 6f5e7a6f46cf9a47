-- What a gate gives: the reader and the writer of one peer.
use Rattle.std.specs.Prelude.{◌≡◌, ◌+◌, ℕ, ℤ, ⊤}
use Rattle.moo_desk.specs.{declared.gate.Taken.{Taken}, declared.gate.Taken.TheVariants.{Came}}

-- what came, if a connection did, is of one peer
abbrev pub IsOfOnePeer : {R W : Type 0} → (R → ℤ) → (W → ℤ) → Taken R W → Type 0
IsOfOnePeer from to (Came reader writer is_limited) = from reader ≡ to writer
IsOfOnePeer from to other = ⊤

-- one more was given if a connection came, else as many as before
abbrev pub CountsTaken : {R W : Type 0} → ℕ → Taken R W → ℕ → Type 0
CountsTaken before (Came reader writer is_limited) after = after ≡ before + 1
CountsTaken before other after = after ≡ before
