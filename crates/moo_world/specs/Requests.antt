-- The calls of petitions, and the outcome of any call of a batch. Petitions are this server's own: LambdaMOO has none.
use Rattle.std.specs.Prelude.{◌≡◌, ℕ, ◌+◌, ◌<◌, ◌≤◌, ℤ, pos, negsuc, nat_lt, Bool, ◌||◌, List, [], ◌∷◌, map, Option, Some, None, is_some}
use Rattle.std.specs.{Prelude.{Result, Ok, Err, if◌then◌else◌}, Option.{option_map, option_and_then}, List.{filter, list_all}}
use Rattle.std.specs.FinMap.{FinMap, get, insert, remove, entries}
use Rattle.moo_value.specs.{declared.value.ObjNo.{ObjNo}, declared.value.Value.{Value}}
use Rattle.moo_value.specs.{declared.value.Value.TheVariants.{Int, Obj, Str, List as a_list}, Value.{spread}, Values.{Values}}
use Rattle.moo_rows.specs.{declared.row.PetitionId.{PetitionId}, declared.row.PetitionRow.{PetitionRow}, Maps.{Maps, petition_cmp}}
use Rattle.moo_world.specs.{declared.call.Call.{Call}, declared.name.PetitionCall.{PetitionCall}}
use Rattle.moo_world.specs.declared.name.PetitionCall.TheVariants.{Petition as to_petition, Petitions as to_list, Grant as to_grant}
use Rattle.moo_world.specs.{declared.name.PetitionCall.TheVariants.{Decline as to_decline}, Answers.{zero, list_of}, Arguments.{no_values}}
use Rattle.moo_world.specs.{Names.{petition_call, call_name_of}, Objects.{same_object, number_limit}}
use Rattle.moo_world.specs.Outcomes.{Outcome, Done, Failed, Full, fails, in_petition, given, require◌else◌, require_room, ◌>>◌, ◌or_else◌}
use Rattle.moo_world.specs.{Outcomes.{◌>>=◌}, Petitions.{is_named, are_few, are_shallow, PetitionsStand}, Rights.{is_wizard}}
use Rattle.moo_world.specs.{Rows.{world_of}, Calls.{world_call, named_call}, World.{World, is_object, IsWellFormed}}
use Rattle.moo_world.specs.Codes.{Code, E_TYPE, E_ARGS}
use Rattle.moo_world.specs.declared.reason.Reason.TheVariants.{NoProgrammer, NoWizard, Unnamed, NotFew, Unasked, Deep, NoPetition, NotAsker}

-- the whole database: the world, the petitions with the number of the next one, and how many batches were accepted
pub record State : Type 0 where
  pub world : World
  pub petitions : FinMap petition_cmp PetitionRow
  pub next_petition : ℕ
  pub seq : ℕ

-- the state that rows show
abbrev pub state_of : Maps → State
state_of rows = record { world = world_of rows; petitions = rows.petitions; next_petition = rows.head.next_petition; seq = rows.head.seq }

-- a well formed world, and petitions as they may be beside it
pub record IsFormed (state : State) : Type 0 where
  pub world : IsWellFormed state.world
  pub petitions : PetitionsStand state.petitions state.next_petition

-- an outcome of the world as one of the whole state: the petitions and the count of batches stay
abbrev pub in_world : State → Outcome World → Outcome State
in_world state (Done answer next) = Done answer (record state { world = next })
in_world state (Failed failure) = Failed failure
in_world state Full = Full

-- ---- what the calls take

-- a list: what `petition` takes
abbrev pub one_list : List Value → Result Values Code
one_list (a_list values ∷ []) = Ok values
one_list (other ∷ []) = Err E_TYPE
one_list args = Err E_ARGS

-- an integer: what `grant` and `decline` take
abbrev pub one_integer : List Value → Result ℤ Code
one_integer (Int number ∷ []) = Ok number
one_integer (other ∷ []) = Err E_TYPE
one_integer args = Err E_ARGS

-- ---- petitions by number

-- the petition of a number
abbrev pub petition_id : ℕ → PetitionId
petition_id number = record { 0 = number }

-- the petition of a number, if there is one. `get`, `insert`, `remove` and `entries` are those of a map
abbrev pub petition_at : State → ℤ → Option (PetitionId × PetitionRow)
petition_at state (pos number) = option_map (λ row. (petition_id number, row)) (get state.petitions (petition_id number))
petition_at state (negsuc number) = None

-- the state without the petition
abbrev pub without : PetitionId → State → State
without id state = record state { petitions = remove state.petitions id }

-- ---- the calls that a petition holds

-- the call that a list is: its name, then its arguments. `None` if it names no call, or one of petitions
abbrev pub call_in : List Value → Option Call
call_in (Str name ∷ args) = option_and_then (λ call_name. if is_some (petition_call call_name) then None else Some (record { name = call_name; args = args })) (call_name_of name)
call_in values = None

-- the call that a value is, which has to be a list
abbrev pub held_call : Value → Option Call
held_call (a_list values) = call_in (spread values)
held_call other = None

-- A call that a petition holds, made by the wizard who grants the petition. `petition` lets in calls on the world alone. E_INVARG comes
-- only if another tool wrote something else into the file.
abbrev pub held_step : World → ObjNo → Value → Outcome World
held_step world programmer held = elim (held_call held) [ None ↦ fails Unasked | Some call ↦ world_call world programmer call ]

-- the calls that a petition holds, from this place on, one after another, up to the first that fails
abbrev pub held_steps : ℕ → World → ObjNo → List Value → Outcome World
held_steps place world programmer [] = Done zero world
held_steps place world programmer (held ∷ rest) = elim (held_step world programmer held) [
  | Done answer next ↦ held_steps (place + 1) next programmer rest
  | Failed failure ↦ Failed (in_petition place failure)
  | Full ↦ Full
]

-- ---- the calls of petitions

-- the state with one petition more
abbrev pub asked : State → ObjNo → Values → State
asked state programmer calls = record state {
  petitions = insert state.petitions (petition_id state.next_petition)
      (record { who = programmer; calls = calls });
  next_petition = state.next_petition + 1;
}

-- each of the values is a call on the world
abbrev pub are_on_world : Values → Bool
are_on_world calls = list_all (λ held. is_some (held_call held)) (spread calls)

-- one petition more, if a number is left
abbrev pub petition_filed : State → ObjNo → Values → Outcome State
petition_filed state programmer calls = do
  require_room (nat_lt state.next_petition number_limit)
  Done (Int (pos state.next_petition)) (asked state programmer calls)

-- a petition may ask for calls on the world, each a list that begins with its name, few and not too deep
abbrev pub petition : State → ObjNo → Values → Outcome State
petition state programmer calls = do
  require list_all is_named (spread calls) else Unnamed
  require are_few calls else NotFew
  require are_on_world calls else Unasked
  require are_shallow calls else Deep
  petition_filed state programmer calls

-- a petition as it is listed: {number, who, calls}
abbrev pub listed : PetitionId × PetitionRow → Value
listed (id, row) = list_of (Int (pos id.0) ∷ Obj row.who ∷ a_list row.calls ∷ [])

-- all petitions for a wizard, else the programmer's own, in the order of their numbers
abbrev pub petitions : State → ObjNo → Outcome State
petitions state programmer = Done (list_of (map listed (filter
    (λ (id, row). is_wizard state.world programmer || same_object row.who programmer) (entries state.petitions)))) state

-- the petition goes, and then its calls are made on the wizard's authority
abbrev pub grant : State → ObjNo → ℤ → Outcome State
grant state programmer number = do
  require is_wizard state.world programmer else NoWizard
  (id, row) ← petition_at state number or_else NoPetition
  in_world (without id state) (held_steps 0 state.world programmer (spread row.calls))

-- who made the petition, or a wizard, takes it away
abbrev pub decline : State → ObjNo → ℤ → Outcome State
decline state programmer number = do
  (id, row) ← petition_at state number or_else NoPetition
  require same_object row.who programmer || is_wizard state.world programmer else NotAsker
  Done zero (without id state)

-- a call of petitions, with what it is given
abbrev pub petition_call_by : State → ObjNo → PetitionCall → List Value → Outcome State
petition_call_by state programmer to_petition args = given (one_list args) (petition state programmer)
petition_call_by state programmer to_list args = given (no_values args) (λ _. petitions state programmer)
petition_call_by state programmer to_grant args = given (one_integer args) (grant state programmer)
petition_call_by state programmer to_decline args = given (one_integer args) (decline state programmer)

-- the call of this name: a call on the world leaves the petitions as they are
abbrev pub call_by_name : State → ObjNo → Call → Outcome State
call_by_name state programmer call = elim (petition_call call.name) [
  | None ↦ in_world state (named_call state.world programmer call.name call.args)
  | Some of_petitions ↦ petition_call_by state programmer of_petitions call.args
]

-- Any call of a batch. The programmer has to be an object.
unfoldable pub batch_call : State → ObjNo → Call → Outcome State
batch_call state programmer call = do
  require is_object state.world programmer else NoProgrammer
  call_by_name state programmer call

-- ---- numbers of petitions

-- A number is given once. If a petition is found later under a number that was given before, it is the one that was there.
pub record PetitionsStay (old new : State) : Type 0 where
  pub same : (id : PetitionId) (row : PetitionRow) → id.0 < old.next_petition → get new.petitions id ≡ Some row →
      get old.petitions id ≡ Some row
  pub next : old.next_petition ≤ new.next_petition
