-- What the calls of a batch and a batch come to on rows.
use Rattle.std.specs.Prelude.{◌≡◌, ◌≢◌, ◌<◌, ◌-◌, true, List, [], None, Result, Ok, Err, ⊤}
use Rattle.moo_value.specs.{declared.value.Value.{Value}, declared.value.ObjNo.{ObjNo}}
use Rattle.moo_rows.specs.Maps.{Maps, Held}
use Rattle.moo_world.specs.{declared.call.Batch.{Batch}, declared.call.Call.{Call}, Between.{CallsLead, BatchLeads}, Rows.{IsGood}}
use Rattle.moo_world.specs.Judge as model
use Rattle.moo_world.specs.{Judge.{State, state_of}, Outcomes.{Failure}}
use Rattle.moo_batch.specs.{declared.witness.Refusal.{Refusal}, Facts.{state_before_call}, declared.judging.Stop.{Stop}}
use Rattle.moo_batch.specs.declared.judging.Stop.TheVariants.{Refused as refused_at, Full as full_at, OutOfMemory as no_memory}
use Rattle.moo_batch.specs.declared.judging.Verdict.{Verdict}
use Rattle.moo_batch.specs.declared.judging.Verdict.TheVariants.{Accepted, Refused, Full, Stale, OutOfMemory}
use Rattle.moo_memory.specs.Changes.{AreChanges}

-- why the call fails that a refusal is about
abbrev pub failure_of : Refusal → Failure
failure_of refusal = record { held = refusal.held; reason = refusal.reason }

-- what is answered if calls come to this: their answers, with the state that they leave, or the first call that isn't done, and why it
-- fails. Out of memory may leave anything
abbrev pub ComeTo : model.Ran → State → Result (List Value) Stop → Type 0
ComeTo ran after (Ok answers) = ran ≡ model.Through answers after
ComeTo ran after (Err (refused_at refusal)) = ran ≡ model.FailedAt refusal.call (failure_of refusal)
ComeTo ran after (Err (full_at call)) = ran ≡ model.FullAt call
ComeTo ran after (Err (no_memory call)) = ⊤

-- at a check that fails the rows are good ones, unless it is one of a call that a granted petition holds
abbrev pub IsGoodAt : Maps → Stop → Type 0
IsGoodAt maps (refused_at refusal) = refusal.held ≡ None → IsGood maps
IsGoodAt maps (full_at call) = ⊤
IsGoodAt maps (no_memory call) = ⊤

-- at a check that fails the rows show the state after the calls before, unless it is one of a call that a granted petition holds
abbrev pub StandsAtCheck : ObjNo → List Call → State → State → Stop → Type 0
StandsAtCheck programmer calls state now (refused_at refusal) =
    refusal.held ≡ None → now ≡ state_before_call state programmer calls (refusal.call - 1)
StandsAtCheck programmer calls state now (full_at call) = ⊤
StandsAtCheck programmer calls state now (no_memory call) = ⊤

-- what calls keep that are all done: the rows are good ones, no batch is counted yet, and each call kept numbers
pub record HaveKept (p : ObjNo) (calls : List Call) (old new : Held) : Type 0 where
  pub good : IsGood new.maps
  pub seq : new.maps.head.seq ≡ old.maps.head.seq
  pub base : new.base ≡ old.base
  pub numbers : CallsLead p calls old.maps new.maps

-- what a batch comes to on rows, and if it is accepted the changes that make them into the next ones, which its calls lead to
-- one after another, each keeping numbers. A lack of memory is answered only if the batch is due, may be counted, and has calls
abbrev pub IsVerdict : Maps → Batch → Verdict → Type 0
IsVerdict base batch (Accepted answers changes) =
    (next : Maps) × AreChanges base next changes × IsGood next
    × (model.judge (state_of base) batch ≡ model.Accepted answers (state_of next)) × BatchLeads batch base next
IsVerdict base batch (Refused call code) = model.judge (state_of base) batch ≡ model.Refused call code
IsVerdict base batch (Full call) = model.judge (state_of base) batch ≡ model.NoRoom call
IsVerdict base batch (Stale seq) = model.judge (state_of base) batch ≡ model.Stale seq
IsVerdict base batch OutOfMemory = (model.is_due batch.at base.head.seq ≡ true) × (base.head.seq < model.last_seq) × (batch.calls ≢ [])
