-- What two states have to share for a programmer, so that no batch of theirs that only reads tells them apart.
use Rattle.std.specs.Prelude.{◌≡◌, ◌↔◌, ℕ, Bool, true, false, ◌&&◌, ◌||◌, List, Option, Some, None, if◌then◌else◌}
use Rattle.std.specs.{Option.{option_and_then}, List.{list_all, AllZip}, FinMap.{get}}
use Rattle.moo_value.specs.{declared.value.ObjNo.{ObjNo}, declared.value.Value.{Value}}
use Rattle.moo_rows.specs.{declared.row.PetitionId.{PetitionId}, declared.row.PetitionRow.{PetitionRow}}
use Rattle.moo_world.specs.{declared.call.Batch.{Batch}, declared.name.CallName.{CallName}, declared.name.CallName.TheVariants.{Petitions}}
use Rattle.moo_world.specs.{Changes.{value_set}, Judge.{State, Verdict, Accepted, Refused, NoRoom, Stale, verdicts, FailedAt, run_calls}}
use Rattle.moo_world.specs.{Objects.{Name, same_object}, Outcomes.{Failure}, Rights.{is_wizard}}
use Rattle.moo_laws.specs.Reading.{is_question, LookAlike}

-- ---- batches that only read

-- the call that lists petitions
abbrev pub lists_petitions : CallName → Bool
lists_petitions name = elim name [ Petitions ↦ true | _ ↦ false ]

-- a batch of this programmer, each of whose calls is a question about the world or lists petitions
abbrev pub only_asks : ObjNo → Batch → Bool
only_asks programmer batch = same_object batch.programmer programmer
    && list_all (λ call. is_question call.name || lists_petitions call.name) batch.calls

-- ---- states that agree

-- the programmer may see a petition: it is the programmer's own, or the programmer is a wizard
abbrev pub may_see_petition : State → ObjNo → PetitionRow → Bool
may_see_petition state programmer row = is_wizard state.world programmer || same_object row.who programmer

-- the petition of this number, if there is one that the programmer may see
abbrev pub seen_petition : State → ObjNo → PetitionId → Option PetitionRow
seen_petition state programmer id =
    option_and_then (λ row. if may_see_petition state programmer row then Some row else None) (get state.petitions id)

-- Two states agree for a programmer: their worlds look alike to the programmer, who may see the same petitions in both, and as many batches
-- were accepted. Petitions that the programmer may not see, and the number of the next petition, may be any.
pub record AgreeFor (programmer : ObjNo) (state other : State) : Type 0 where
  pub worlds : LookAlike programmer state.world other.world
  pub petitions : (id : PetitionId) → seen_petition other programmer id ≡ seen_petition state programmer id
  pub accepted : other.seq ≡ state.seq

-- the programmer made the same petitions in both states; the petitions of others may be any
abbrev pub SameOwnPetitions : ObjNo → State → State → Type 0
SameOwnPetitions programmer state other = (id : PetitionId) (row : PetitionRow) → row.who ≡ programmer →
    get other.petitions id ≡ Some row ↔ get state.petitions id ≡ Some row

-- ---- what is told

-- two verdicts tell the same: the same answers, or the same error at the same call, or no room at the same call, or the same number of
-- accepted batches
abbrev pub SameVerdict : Verdict → Verdict → Type 0
SameVerdict (Accepted answers next) (Accepted other_answers other_next) = other_answers ≡ answers
SameVerdict (Refused place code) (Refused other_place other_code) = (other_place ≡ place) × (other_code ≡ code)
SameVerdict (NoRoom place) (NoRoom other_place) = other_place ≡ place
SameVerdict (Stale seq) (Stale other_seq) = other_seq ≡ seq
SameVerdict verdict other = ⊥

-- the first call that fails when those of a batch are made in turn, counted from 1, and why
abbrev pub refusal_of : State → Batch → Option (ℕ × Failure)
refusal_of state batch = elim (run_calls state batch.programmer batch.calls) [ FailedAt place failure ↦ Some (place, failure) | _ ↦ None ]

-- the batches, one after another, have the same verdicts from one state as from the other
abbrev pub TellTheSame : List Batch → State → State → Type 0
TellTheSame batches state other = AllZip SameVerdict (verdicts state batches) (verdicts other batches)

-- the state in which a property has another value on an object
abbrev pub with_value : State → ObjNo → Name → Value → State
with_value state object name value = record state { world = value_set state.world object name value }
