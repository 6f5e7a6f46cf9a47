-- Who isn't a wizard makes nobody a wizard, a programmer or a player, and takes no object and no property from anybody.
use Rattle.std.specs.{Prelude.{◌≡◌, true, false, List, [], ◌∷◌, Option, Some, None, if◌then◌else◌, ⊤}, Option.{option_and_then}}
use Rattle.moo_value.specs.declared.value.ObjNo.{ObjNo}
use Rattle.moo_world.specs.{declared.call.Call.{Call}, declared.call.Batch.{Batch}, Judge.{State, judge, left_by, is_accepted}}
use Rattle.moo_world.specs.{Objects.{Name, same_object}, Outcomes.{Done, Failed, Full}, Ownership.{SameRights, name_after}}
use Rattle.moo_world.specs.{Requests.{batch_call}, Rights.{is_wizard}, World.{World, Slot, is_object, row_passes, slot_of}}

-- no accepted one of the batches is a wizard's at its turn
abbrev pub NoWizardActs : State → List Batch → Type 0
NoWizardActs state [] = ⊤
NoWizardActs state (batch ∷ batches) =
    (is_accepted (judge state batch) ≡ true → is_wizard state.world batch.programmer ≡ false)
    × NoWizardActs (left_by state (judge state batch)) batches

-- whoever is a player, a programmer or a wizard in the next world was one before
pub record NobodyRises (world next : World) : Type 0 where
  pub players : (object : ObjNo) → row_passes (λ row. row.player) next object ≡ true →
      row_passes (λ row. row.player) world object ≡ true
  pub programmers : (object : ObjNo) → row_passes (λ row. row.programmer) next object ≡ true →
      row_passes (λ row. row.programmer) world object ≡ true
  pub wizards : (object : ObjNo) → is_wizard next object ≡ true → is_wizard world object ≡ true

-- ---- a slot is followed: it stays while its object has it, under its name or the new one, by the same definer

-- a slot under its folded name
abbrev pub NamedSlot : Type 0
NamedSlot = Name × Slot

-- what a call makes of a slot of an object: nothing, if the call takes it away
abbrev pub slot_behind_call : World → World → Call → ObjNo → NamedSlot → Option NamedSlot
slot_behind_call world next call object (name, slot) = option_and_then
    (λ now. if same_object slot.definer now.definer then Some (name_after world call object name, now) else None)
    (slot_of next object (name_after world call object name))

-- what calls of a programmer, one after another, make of a slot of an object: nothing, if one takes it away or isn't done
abbrev pub slot_behind_calls : State → ObjNo → List Call → ObjNo → NamedSlot → Option NamedSlot
slot_behind_calls state programmer [] object named = Some named
slot_behind_calls state programmer (call ∷ calls) object named = elim (batch_call state programmer call) [
  | Done answer next ↦
      option_and_then (slot_behind_calls next programmer calls object) (slot_behind_call state.world next.world call object named)
  | Failed failure ↦ None
  | Full ↦ None
]

-- what batches, one after another, make of a slot of an object: only those that are accepted do anything
abbrev pub slot_behind : State → List Batch → ObjNo → NamedSlot → Option NamedSlot
slot_behind state [] object named = Some named
slot_behind state (batch ∷ batches) object named =
    option_and_then (slot_behind (left_by state (judge state batch)) batches object)
    (if is_accepted (judge state batch) then slot_behind_calls state batch.programmer batch.calls object named else Some named)

-- ---- what holds

-- Nobody rises. An object that stays keeps its owner, and whether it is a player, a programmer or a wizard. A slot that was never away
-- keeps its owner.
pub record KeepsRights (state : State) (batches : List Batch) (end : State) : Type 0 where
  pub rises : NobodyRises state.world end.world
  pub objects : (object : ObjNo) → is_object state.world object ≡ true → is_object end.world object ≡ true →
      SameRights state.world end.world object
  pub slots : (object : ObjNo) (was now : NamedSlot) → slot_of state.world object was.0 ≡ Some was.1 →
      slot_behind state batches object was ≡ Some now → (slot_of end.world object now.0 ≡ Some now.1) × (now.1.owner ≡ was.1.owner)
