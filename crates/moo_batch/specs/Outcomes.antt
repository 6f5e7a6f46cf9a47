-- What the outcome of any call of a batch is on rows.
use Rattle.std.specs.Prelude.{◌≡◌, ℕ, List, Result, Ok, Err, ⊤}
use Rattle.moo_value.specs.{declared.value.ObjNo.{ObjNo}, declared.value.Value.{Value}}
use Rattle.moo_rows.specs.Maps.{Maps, Held}
use Rattle.moo_world.specs.{Between.{HeldCallsLead}, Keeps.{beside_world}}
use Rattle.moo_world.specs.{Outcomes.{Outcome, Done, Failed, Full as none_left, fails, in_petition, of_itself}, Requests.{State, state_of}}
use Rattle.moo_world.specs.{Rows.{IsGood}, World.{World}}
use Rattle.moo_calls_shared.specs.{Outcomes.{world_in}, declared.fault.Fault.{Fault}}
use Rattle.moo_calls_shared.specs.declared.fault.Fault.TheVariants.{Moo, Held as of_held, Full, OutOfMemory}

-- the state of the rows that are held: the world, the petitions and the sequence number
abbrev pub state_in : Held → State
state_in held = state_of held.maps

-- what a call answers if this is its outcome: the answer, with the rows of the next state, or why it fails. Out of memory may leave
-- anything
abbrev pub Reaches : Outcome State → Held → Result Value Fault → Type 0
Reaches outcome new (Ok v) = outcome ≡ Done v (state_in new)
Reaches outcome new (Err (Moo reason)) = outcome ≡ fails reason
Reaches outcome new (Err (of_held place reason)) = outcome ≡ Failed (in_petition place (of_itself reason))
Reaches outcome new (Err Full) = outcome ≡ none_left
Reaches outcome new (Err OutOfMemory) = ⊤

-- if a call isn't done, and not for lack of memory, the rows are as they were
abbrev pub Stays : Held → Held → Result Value Fault → Type 0
Stays old new (Ok v) = ⊤
Stays old new (Err (Moo reason)) = new ≡ old
Stays old new (Err (of_held place reason)) = new ≡ old
Stays old new (Err Full) = new ≡ old
Stays old new (Err OutOfMemory) = ⊤

-- if a check of the call itself fails, the rows are as they were
abbrev pub StaysAtCheck : Held → Held → Fault → Type 0
StaysAtCheck old new (Moo reason) = new ≡ old
StaysAtCheck old new (of_held place reason) = ⊤
StaysAtCheck old new Full = ⊤
StaysAtCheck old new OutOfMemory = ⊤

-- what calls on the world answer one after another: 0 with the world after all, or why the first fails that isn't done; or memory ran out
abbrev pub ComesInTurn : Outcome World → Held → Result Value Fault → Type 0
ComesInTurn outcome new (Ok v) = outcome ≡ Done v (world_in new)
ComesInTurn outcome new (Err (Moo reason)) = ⊥
ComesInTurn outcome new (Err (of_held place reason)) = outcome ≡ Failed (in_petition place (of_itself reason))
ComesInTurn outcome new (Err Full) = outcome ≡ none_left
ComesInTurn outcome new (Err OutOfMemory) = ⊤

-- what the calls of a petition keep that are all done: the rows are good ones, what is beside the world is as it was, and each call kept
-- numbers
pub record KeepInTurn (p : ObjNo) (helds : List Value) (old new : Held) : Type 0 where
  pub good : IsGood new.maps
  pub beside : beside_world new.maps ≡ beside_world old.maps
  pub base : new.base ≡ old.base
  pub numbers : HeldCallsLead p helds old.maps new.maps

-- what a call keeps that is done: the rows are good ones, no batch is counted yet, and numbers are kept in this way
pub record KeepsGoodRows (keeps_numbers : Maps → Maps → Type 0) (old new : Held) : Type 0 where
  pub good : IsGood new.maps
  pub seq : new.maps.head.seq ≡ old.maps.head.seq
  pub base : new.base ≡ old.base
  pub numbers : keeps_numbers old.maps new.maps

-- why a grant fails, if the call at this place of its petition, from 0, fails so: for the same reason, with the place
abbrev pub held_at : ℕ → Fault → Fault
held_at place (Moo reason) = of_held place reason
held_at place other = other
