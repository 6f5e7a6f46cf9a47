-- What a dump tells of a state.
use Rattle.std.specs.Prelude.{◌≡◌, ◌<◌, ◌^◌}
use Rattle.moo_world.specs.{Judge.{State}, Requests.{IsFormed}}

-- a well formed state after fewer than 2^63 batches that were accepted
pub record IsHeld (s : State) : Type 0 where
  pub formed : IsFormed s
  pub limit : s.seq < 2 ^ 63

-- the states are the same but for what no dump shows: the numbers of the next property, verb and petition
pub record AreTheSame (s t : State) : Type 0 where
  pub seq : s.seq ≡ t.seq
  pub top : s.world.top ≡ t.world.top
  pub objects : s.world.object ≡ t.world.object
  pub petitions : s.petitions ≡ t.petitions
