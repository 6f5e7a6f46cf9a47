-- What a witness is told of the rows if a batch is refused.
use Rattle.std.specs.Prelude.{◌≡◌, ℕ, zero, suc, ◌-◌, true, List, [], ◌∷◌, Option, None, is_some, Ok, Err, if◌then◌else◌, slice_get, IfSome}
use Rattle.std.specs.Option.{option_and_then, option_map}
use Rattle.moo_value.specs.{declared.value.ObjNo.{ObjNo}, Values.{Values}}
use Rattle.moo_rows.specs.Maps.{Maps}
use Rattle.moo_world.specs.{declared.call.Batch.{Batch}, declared.call.Call.{Call}, Names.{is_grant}, Outcomes.{Done, Failed, Full}}
use Rattle.moo_world.specs.{Requests.{State, batch_call, one_integer, petition_at, state_of}, World.{World}}
use Rattle.moo_disclosure.specs.Disclosed.{calls_seen, clash_name, names_meant}
use Rattle.moo_batch.specs.{declared.witness.Facts.{Facts}, declared.witness.Refusal.{Refusal}}

-- the state on which the call at this place of a batch is made, from 0: the state after the calls before it
abbrev pub state_before_call : State → ObjNo → List Call → ℕ → State
state_before_call state programmer calls zero = state
state_before_call state programmer [] (suc place) = state
state_before_call state programmer (call ∷ calls) (suc place) = elim (batch_call state programmer call) [
  | Done answer next ↦ state_before_call next programmer calls place
  | Failed failure ↦ state
  | Full ↦ state
]

-- the call of the batch that a refusal is about
abbrev pub refused_call : Batch → Refusal → Option Call
refused_call batch refusal = slice_get batch.calls (refusal.call - 1)

-- what the petition asks for that a call grants, if the programmer may see it; of another call nothing
abbrev pub petition_granted : Maps → ObjNo → Call → Option Values
petition_granted maps programmer call = if is_grant call.name then elim (one_integer call.args) [
  | Ok number ↦ option_and_then (λ found. calls_seen maps programmer found.0) (petition_at (state_of maps) number)
  | Err code ↦ None
] else None

-- What is told of a refusal, in the world where its check failed; the batch was judged on the rows `base`.
pub record AreFacts (world : World) (base : Maps) (batch : Batch) (refusal : Refusal) (facts : Facts) : Type 0 where
  -- names that the programmer may list
  pub meant : refusal.held ≡ None → IfSome (refused_call batch refusal) (λ call.
      facts.names.meant.items ≡ names_meant world batch.programmer call.name call.args refusal.reason)
  pub clash : refusal.held ≡ None → IfSome (refused_call batch refusal) (λ call.
      facts.names.clash ≡ clash_name world batch.programmer call.args refusal.reason)
  -- none of a call that a granted petition holds
  pub held : is_some refusal.held ≡ true → (facts.names.meant.items ≡ []) × (facts.names.clash ≡ None)
  -- what the petition asks for that the refused call grants, if the programmer may see it
  pub petition : option_map (λ calls. calls.now) facts.petition
      ≡ option_and_then (petition_granted base batch.programmer) (refused_call batch refusal)
  pub next : facts.next_petition ≡ base.head.next_petition

-- what is told of the refusal of a batch that is judged on these rows: the check failed in the world after the calls before the refused one
abbrev pub AreFactsOf : Maps → Batch → Refusal → Facts → Type 0
AreFactsOf maps batch refusal facts =
    AreFacts (state_before_call (state_of maps) batch.programmer batch.calls (refusal.call - 1)).world maps batch refusal facts
