-- What quotas count, and what only a wizard may do.
use Rattle.std.specs.Prelude.{◌≡◌, ℤ, pos, ◌+ℤ◌, int_lt, true, false, ◌&&◌, ◌||◌, is_some, Option, None, Some, Result, Ok, Err}
use Rattle.std.specs.Prelude.{if◌then◌else◌}
use Rattle.moo_value.specs.{declared.code.Code.{Code}, declared.value.ObjNo.{ObjNo}, declared.value.Value.{Value}}
use Rattle.moo_value.specs.declared.value.Value.TheVariants.{Obj}
use Rattle.moo_world.specs.{declared.call.Call.{Call}, declared.name.CallName.TheVariants.{SetPropertyInfo}}
use Rattle.moo_world.specs.Objects.{Name, nothing, same_object, same_text, folded, is_among, -1}
use Rattle.moo_world.specs.World.{World, Slot, IsWellFormed, is_object, row_passes, owner_of, slot_of, chain}
use Rattle.moo_world.specs.{Arguments.{NewPropertyInfo, new_property_info}, Outcomes.{Done}, Calls.{create, recycle, world_call}}
use Rattle.moo_world.specs.{Quota.{quota_of}, Recycling.{recycled}, Rights.{is_wizard}, Names.{petition_call}, Requests.{State, batch_call}}

-- the object has the owner, the player flag, and the programmer and wizard bits that it had
abbrev pub SameRights : World → World → ObjNo → Type 0
SameRights world next object =
    (owner_of next object ≡ owner_of world object)
    × (row_passes (λ row. row.player) next object ≡ row_passes (λ row. row.player) world object)
    × (row_passes (λ row. row.programmer) next object ≡ row_passes (λ row. row.programmer) world object)
    × (row_passes (λ row. row.wizard) next object ≡ row_passes (λ row. row.wizard) world object)

-- the folded name that a slot of another object has after the object's property of one name was given a new one
abbrev pub name_changed : World → ObjNo → Name → Name → ObjNo → Name → Name
name_changed world object old_name new_name other slot_name =
    if is_among object (chain world other) && same_text (folded old_name) slot_name then folded new_name else slot_name

-- the folded name that a slot of another object has after the object's property of one name was given a new one, if one was given
abbrev pub name_given : World → ObjNo → Name → Option Name → ObjNo → Name → Name
name_given world object old_name None other slot_name = slot_name
name_given world object old_name (Some new_name) other slot_name = name_changed world object old_name new_name other slot_name

-- the folded name that a slot has after set_property_info with these arguments
abbrev pub name_by : World → Result NewPropertyInfo Code → ObjNo → Name → Name
name_by world (Ok arguments) other slot_name = name_given world arguments.object arguments.name arguments.new_name other slot_name
name_by world (Err code) other slot_name = slot_name

-- the folded name that a slot has after a call: set_property_info alone gives other names
abbrev pub name_after : World → Call → ObjNo → Name → Name
name_after world call other slot_name =
    elim call.name [ SetPropertyInfo ↦ name_by world (new_property_info call.args) other slot_name | _ ↦ slot_name ]

-- no rights of an object that stays have changed and no owner of a slot that stays, by its new name; and what is made is the
-- programmer's, with none of the bits
pub record KeepsOwnership (world next : World) (programmer : ObjNo) (new_name_of : ObjNo → Name → Name) : Type 0 where
  pub rights : (object : ObjNo) → is_object world object ≡ true → is_object next object ≡ true → SameRights world next object
  pub slots : (object : ObjNo) (name : Name) (slot slot_after : Slot) → slot_of world object name ≡ Some slot →
      slot_of next object (new_name_of object name) ≡ Some slot_after → slot.definer ≡ slot_after.definer → slot_after.owner ≡ slot.owner
  pub made : (object : ObjNo) → is_object world object ≡ false → is_object next object ≡ true → (owner_of next object ≡ programmer)
      × (row_passes (λ row. row.player) next object ≡ false) × (row_passes (λ row. row.programmer) next object ≡ false)
      × (row_passes (λ row. row.wizard) next object ≡ false)

-- an answered call of a programmer who isn't a wizard keeps ownership
abbrev pub NoWizardKeepsOwnership : Type 0
NoWizardKeepsOwnership = (world next : World) (programmer : ObjNo) (call : Call) (answer : Value) → IsWellFormed world →
    is_wizard world programmer ≡ false → world_call world programmer call ≡ Done answer next →
    KeepsOwnership world next programmer (name_after world call)

-- an answered call of petitions by a programmer who isn't a wizard leaves the world as it is
abbrev pub PetitionsLeaveTheWorld : Type 0
PetitionsLeaveTheWorld = (state next : State) (programmer : ObjNo) (call : Call) (answer : Value) →
    is_wizard state.world programmer ≡ false → is_some (petition_call call.name) ≡ true →
    batch_call state programmer call ≡ Done answer next → next.world ≡ state.world

-- an accepted create lowers the quota of the intended owner by one, and makes one object, of that owner, and no other
abbrev pub CreateTakesOne : Type 0
CreateTakesOne =
    (world next : World) (programmer parent owner : ObjNo) (answer : Value) (quota : ℤ) → IsWellFormed world →
    same_object nothing owner ≡ false → quota_of world owner ≡ Some quota → create world programmer parent owner ≡ Done answer next →
    (quota_of next owner ≡ Some (quota +ℤ -1))
    × ((object : ObjNo) × (answer ≡ Obj object) × (is_object world object ≡ false) × (owner_of next object ≡ owner)
    × ((other : ObjNo) → is_object next other ≡ (same_object object other || is_object world other))
    × ((other : ObjNo) → is_object world other ≡ true → owner_of next other ≡ owner_of world other))

-- an accepted recycle gives one back to the former owner, whose quota is read when the object is gone
abbrev pub RecycleGivesOne : Type 0
RecycleGivesOne =
    (world next : World) (programmer object : ObjNo) (answer : Value) (quota : ℤ) → IsWellFormed world →
    recycle world programmer object ≡ Done answer next →
    quota_of (recycled world object) (owner_of world object) ≡ Some quota → int_lt quota (pos 9223372036854775807) ≡ true →
    quota_of next (owner_of world object) ≡ Some (quota +ℤ pos 1)
