-- The rows between the calls of a batch.
use Rattle.std.specs.{Prelude.{◌≡◌, ◌+◌, Bool, true, false, ℤ, Some, List, [], ◌∷◌, Ok}, FinMap.{remove}}
use Rattle.moo_value.specs.{declared.value.ObjNo.{ObjNo}, declared.value.Value.{Value}, Value.{spread}}
use Rattle.moo_rows.specs.{declared.row.PetitionId.{PetitionId}, declared.row.PetitionRow.{PetitionRow}, Maps.{Maps}}
use Rattle.moo_world.specs.{declared.call.Call.{Call}, declared.call.Batch.{Batch}, Numbers.{KeepsNumbers, NumbersStay}, Names.{is_grant}}
use Rattle.moo_world.specs.{Outcomes.{Done}, Requests.{held_step, in_world, one_integer, petition_at, batch_call, state_of, PetitionsStay}}
use Rattle.moo_world.specs.Rows.{IsGood, world_of}

-- the calls that a petition holds lead from rows to rows: each is done, leaves good rows, and keeps numbers
abbrev pub HeldCallsLead : ObjNo → List Value → Maps → Maps → Type 0
HeldCallsLead programmer [] old new = new ≡ old
HeldCallsLead programmer (held ∷ helds) old new =
    (answer : Value) × (mid : Maps) × (in_world (state_of old) (held_step (world_of old) programmer held) ≡ Done answer (state_of mid))
    × IsGood mid × KeepsNumbers old mid × HeldCallsLead programmer helds mid new

-- the petition goes that is granted, and then the calls that it holds lead on
abbrev pub GrantLeads : ObjNo → List Value → Maps → Maps → Type 0
GrantLeads programmer args old new =
    (number : ℤ) × (found : PetitionId × PetitionRow) × (one_integer args ≡ Ok number) × (petition_at (state_of old) number ≡ Some found)
    × HeldCallsLead programmer (spread found.1.calls) (record old { petitions = remove old.petitions found.0 }) new

-- what a call does to numbers: one change, or, if it grants a petition, one for each call that the petition holds
abbrev pub CallKeepsNumbers : Bool → ObjNo → List Value → Maps → Maps → Type 0
CallKeepsNumbers true programmer args = GrantLeads programmer args
CallKeepsNumbers false programmer args = KeepsNumbers

-- the calls lead from rows to rows: each is done, leaves good rows, and keeps numbers
abbrev pub CallsLead : ObjNo → List Call → Maps → Maps → Type 0
CallsLead programmer [] old new = new ≡ old
CallsLead programmer (call ∷ calls) old new =
    (answer : Value) × (mid : Maps) × (batch_call (state_of old) programmer call ≡ Done answer (state_of mid)) × IsGood mid
    × CallKeepsNumbers (is_grant call.name) programmer call.args old mid × CallsLead programmer calls mid new

-- the calls of the batch lead from rows to rows, and the batch is counted
abbrev pub BatchLeads : Batch → Maps → Maps → Type 0
BatchLeads batch old new =
    (last : Maps) × CallsLead batch.programmer batch.calls old last
    × (new ≡ record last { head = record (last.head) { seq = old.head.seq + 1 } })

-- no batch gives a number again: numbers of properties and verbs stay, and those of petitions
abbrev pub BatchesKeepNumbers : Type 0
BatchesKeepNumbers =
    (batch : Batch) (old new : Maps) → BatchLeads batch old new → NumbersStay old new × PetitionsStay (state_of old) (state_of new)
