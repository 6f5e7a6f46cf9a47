-- What becomes of the connections that are given back to a desk.
use Rattle.std.specs.Prelude.{◌≡◌, ◌⊎◌, ◌+◌, ◌++◌, ℕ, ℤ, ⊤, Bool, List, [], ◌∷◌, Option, Some, None, length}
use Rattle.std.specs.declared.io.Write as Writing
use Rattle.moo_arrivals.specs.{declared.arrivals.Closing.{Closing}, declared.arrivals.Connection.{Connection}, declared.cause.Cause.{Cause}}
use Rattle.moo_arrivals.specs.{declared.cause.Loss.{Loss}, declared.route.Route.{Route}}
use Rattle.moo_desk.specs.{declared.gathered.Gathered.{Gathered}, declared.leaving.Leaving.{Leaving}, declared.leaving.Stage.{Stage}}
use Rattle.moo_desk.specs.{declared.leaving.Stage.TheVariants.{Done, Lost}, declared.losses.Losses.{Losses}}
use Rattle.moo_desk.specs.{declared.outgoing.Outgoing.{Outgoing}, Exchange.{Begins}, Later.{IsLater}}

-- A call of a desk: what `accept` hands out; what `close` is given; whether a `settle` is the last, and the loss that it tells of.
pub data Call (R W : Type 0) : Type 0 where
  calls_accept : Option (Connection (Gathered R) (Outgoing W)) → Call R W
  calls_close : Connection (Gathered R) (Outgoing W) → Closing → Route → Call R W
  calls_settle : Bool → Option Loss → Call R W

module _ {R W : Type 0} where
  -- a connection is handed out
  abbrev pub handed_in : Call R W → ℕ
  handed_in (calls_accept (Some it)) = 1
  handed_in other = 0

  -- no connection is handed out, as at a fault
  abbrev pub missed_in : Call R W → ℕ
  missed_in (calls_accept None) = 1
  missed_in other = 0

  -- a connection is given back
  abbrev pub given_in : Call R W → ℕ
  given_in (calls_close given closing route) = 1
  given_in other = 0

  -- a loss is told of
  abbrev pub told_in : Call R W → ℕ
  told_in (calls_settle is_last (Some loss)) = 1
  told_in other = 0

  -- in how many of these calls that happens which `count` counts
  abbrev pub in_all : (Call R W → ℕ) → List (Call R W) → ℕ
  in_all count [] = 0
  in_all count (call ∷ earlier) = in_all count earlier + count call

  -- these connections are those that were given back, in their order, each as it is when nothing was sent yet
  abbrev pub AreGivenBack : List (Call R W) → List (Leaving R W) → Type 0
  AreGivenBack [] began = began ≡ []
  AreGivenBack (calls_close given closing route ∷ earlier) began =
      (front : List (Leaving R W)) × (it : Leaving R W) × AreGivenBack earlier front × Begins given closing route it
      × (began ≡ front ++ it ∷ [])
  AreGivenBack (call ∷ earlier) began = AreGivenBack earlier began

-- A connection that was given back, as it is by now: still held, or over.
pub data Fate (R W : Type 0) : Type 0 where
  still : Leaving R W → Fate R W
  ended : Leaving R W → Fate R W

-- a connection is over: all of its answer was sent, or its answer was lost
abbrev pub HasEnded : {R W : Type 0} → Leaving R W → Type 0
HasEnded it = ((it.stage ≡ Done) × (it.writer.sent ≡ length it.writer.text.items)) ⊎ ((cause : Cause) × (it.stage ≡ Lost cause))

-- each fate is that of the connection at its place, later; one that isn't held any more is over
abbrev pub Becomes : {R W : Type 0} → Writing.Ghosts W → (W → ℤ) → List (Leaving R W) → List (Fate R W) → Type 0
Becomes writer to [] [] = ⊤
Becomes writer to (it ∷ began) (still now ∷ fates) = IsLater writer to it now × Becomes writer to began fates
Becomes writer to (it ∷ began) (ended now ∷ fates) = IsLater writer to it now × HasEnded now × Becomes writer to began fates
Becomes writer to began fates = ⊥

-- the connections that are still held
abbrev pub still_held : {R W : Type 0} → List (Fate R W) → List (Leaving R W)
still_held [] = []
still_held (still now ∷ fates) = now ∷ still_held fates
still_held (ended now ∷ fates) = still_held fates

-- one if an answer that came to this stage was lost
abbrev pub lost_at : Stage → ℕ
lost_at (Lost cause) = 1
lost_at other = 0

-- how many answers were lost
abbrev pub count_lost : {R W : Type 0} → List (Fate R W) → ℕ
count_lost [] = 0
count_lost (still now ∷ fates) = count_lost fates
count_lost (ended now ∷ fates) = count_lost fates + lost_at now.stage

-- how many losses are noted
abbrev pub count_noted : Losses → ℕ
count_noted losses = length losses.all.items + losses.more
