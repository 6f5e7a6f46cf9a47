-- That each call leaves a well formed world, and so does each run of batches.
use Rattle.std.specs.{Prelude.{◌≡◌, ℕ, true, Bool, List}, Bool.{Decides}, List.{list_all}}
use Rattle.moo_value.specs.{declared.value.ObjNo.{ObjNo}, declared.value.Value.{Value}, Literal.{Fits}, Text.{IsText}}
use Rattle.moo_world.specs.{declared.call.Batch.{Batch}, declared.call.Call.{Call}, Arguments.{is_text, fits}, Judge.{after}}
use Rattle.moo_world.specs.{Outcomes.{Done}, Requests.{State, IsFormed, batch_call}, Calls.{world_call}, World.{World, IsWellFormed}}

-- in each value that the call is given lists nest at most 32 deep, integers have 64 bits, the numbers of objects 32, and strings are texts
abbrev pub arguments_fit : Call → Bool
arguments_fit call = list_all fits call.args

-- if a call is answered in a well formed world, the world that it leaves is well formed
abbrev pub CallsKeepForm : Type 0
CallsKeepForm = (world next : World) (programmer : ObjNo) (call : Call) (answer : Value) → IsWellFormed world → arguments_fit call ≡ true →
    world_call world programmer call ≡ Done answer next → IsWellFormed next

-- if any call of a batch is answered, one of petitions too, the world and the petitions that it leaves are well formed if they were
abbrev pub RequestsKeepForm : Type 0
RequestsKeepForm = (state next : State) (programmer : ObjNo) (call : Call) (answer : Value) → IsFormed state → arguments_fit call ≡ true →
    batch_call state programmer call ≡ Done answer next → IsFormed next

-- after any batches, accepted or not, a world and petitions that were well formed are well formed
abbrev pub RunsKeepForm : Type 0
RunsKeepForm = (state : State) (batches : List Batch) → IsFormed state →
    list_all (λ batch. list_all arguments_fit batch.calls) batches ≡ true → IsFormed (after state batches)

-- ---- what is given

-- the test of strings is the rule that their type keeps
abbrev pub TextIsTested : Type 0
TextIsTested = (text : List ℕ) → Decides (is_text text) (IsText text)

-- a value fits if it is one within the limits of literals
abbrev pub FitsIsTested : Type 0
FitsIsTested = (value : Value) → Decides (fits value) (Fits value)
