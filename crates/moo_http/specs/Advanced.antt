-- The very World that was asked, or one that was led on.
use Rattle.std.specs.Prelude.{◌≡◌, ◌⊎◌, ◌<◌, true, false}
use Rattle.sqlite.specs.Store.{Ghosts}
use Rattle.moo_store.specs.{Kept.{World}, Moves.{Stands, MovesBy}, Place.{Place}}

-- a World that worked has failed, or its number is greater: its store failed, or it accepted a batch
abbrev pub HasAdvanced : {S : Type 0} → World S → World S → Type 0
HasAdvanced old new = (old.failed ≡ false) × ((new.failed ≡ true) ⊎ (old.rows.maps.head.seq < new.rows.maps.head.seq))

-- It is the very World, with its store, unless it has advanced.
abbrev pub IsStillOrAdvanced : {S : Type 0} → Ghosts S → World S → World S → Type 0
IsStillOrAdvanced g old new = (place : Place) → Stands g old place → (new ≡ old) ⊎ HasAdvanced old new

-- Wherever the World was, it was led on by this way. Unless a batch was accepted, or the store failed in one, it is the very World.
pub record AdvancesBy {S : Type 0} (g : Ghosts S) (old new : World S) (Way : Place → Place → Type 0) : Type 0 where
  pub moves : MovesBy g old new Way
  pub still : IsStillOrAdvanced g old new
