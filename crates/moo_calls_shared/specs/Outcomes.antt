-- What the outcome of a call is on rows.
use Rattle.std.specs.Prelude.{◌≡◌, Result, Ok, Err, OnOk, ⊤}
use Rattle.moo_value.specs.{declared.code.Code.{Code}, declared.value.Value.{Value}}
use Rattle.moo_rows.specs.Maps.{Held}
use Rattle.moo_world.specs.{Keeps.{Keeps}, World.{World}, Rows.{world_of}, declared.reason.Reason.{Reason}}
use Rattle.moo_world.specs.{declared.reason.Reason.TheVariants.{Given}, Outcomes.{Outcome, Done, Full, fails}}
use Rattle.moo_calls_shared.specs.declared.fault.Fault.{Fault}
use Rattle.moo_calls_shared.specs.declared.fault.Fault.TheVariants.{Moo, Held as of_held, Full as NoneLeft, OutOfMemory}

-- the world of the rows that are held: objects, properties and verbs, without petitions and sequence numbers
abbrev pub world_in : Held → World
world_in held = world_of held.maps

-- what a call answers if this is its outcome: the answer, with the rows of the next world, or the reason for which it fails, with the
-- rows as they were. Out of memory may leave anything
abbrev pub ComesTo : Outcome World → Held → Held → Result Value Fault → Type 0
ComesTo outcome old new (Ok v) = outcome ≡ Done v (world_in new)
ComesTo outcome old new (Err (Moo reason)) = (outcome ≡ fails reason) × (new ≡ old)
ComesTo outcome old new (Err (of_held place reason)) = ⊥
ComesTo outcome old new (Err NoneLeft) = (outcome ≡ Full) × (new ≡ old)
ComesTo outcome old new (Err OutOfMemory) = ⊤

-- What a call does whose outcome is this: its answer and its rows are those of the outcome. If it is done, the rows are good ones, what is
-- beside the world is as it was, and what stays keeps its number.
pub record Does (outcome : Outcome World) (old new : Held) (result : Result Value Fault) : Type 0 where
  pub comes : ComesTo outcome old new result
  pub kept : OnOk result (Keeps old new)

-- what a call answers that only reads: the rows stay
abbrev pub Answers : Outcome World → Held → Result Value Fault → Type 0
Answers outcome rows result = ComesTo outcome rows rows result

-- a reader of a value answers what the value is taken for, or the reason why it isn't taken; or out of memory
abbrev pub TakenOrNot : {A : Type 0} → Result A Reason → Result A Fault → Type 0
TakenOrNot taken (Ok a) = taken ≡ Ok a
TakenOrNot taken (Err (Moo reason)) = taken ≡ Err reason
TakenOrNot taken (Err (of_held place reason)) = ⊥
TakenOrNot taken (Err NoneLeft) = ⊥
TakenOrNot taken (Err OutOfMemory) = ⊤

-- a reader of the arguments of a call answers what it reads, or the error of the model; or out of memory
abbrev pub GivenOrNot : {A : Type 0} → Result A Code → Result A Fault → Type 0
GivenOrNot read (Ok a) = read ≡ Ok a
GivenOrNot read (Err (Moo (Given code))) = read ≡ Err code
GivenOrNot read (Err (Moo reason)) = ⊥
GivenOrNot read (Err (of_held place reason)) = ⊥
GivenOrNot read (Err NoneLeft) = ⊥
GivenOrNot read (Err OutOfMemory) = ⊤
