-- The quota of an owner.
-- From the LambdaMOO Programmer's Manual: 'Fundamental Operations on Objects', `create` and `recycle`. That no quota is asked for if #-1
-- was given as owner is as in LambdaMOO 1.8. That `recycle` reads the quota after the object is gone, and that a quota at the greatest
-- integer stays, are this server's own.
use Rattle.std.specs.Prelude.{ℤ, pos, ◌+ℤ◌, int_lt, Bool, true, false, ◌||◌, codes, Option, Some, None, unwrap_or, if◌then◌else◌}
use Rattle.std.specs.Option.{option_map}
use Rattle.moo_value.specs.{declared.value.ObjNo.{ObjNo}, declared.value.Value.{Value}, declared.value.Value.TheVariants.{Int}}
use Rattle.moo_rows.specs.{declared.row.SlotState.{SlotState}, declared.row.SlotState.TheVariants.{Set}}
use Rattle.moo_world.specs.{Objects.{Name, nothing, same_object, same_text, -1}, World.{World, WorldObject, Slot, object_changed, read_of}}

-- the name of the quota property, folded
abbrev pub quota_name : Name
quota_name = codes "ownership_quota"

-- the value as a quota: an integer, or there is no quota
abbrev pub quota_in : Option Value → Option ℤ
quota_in (Some (Int quota)) = Some quota
quota_in other = None

-- the integer that an owner reads as its quota; there is no quota if it reads anything else
abbrev pub quota_of : World → ObjNo → Option ℤ
quota_of world owner = quota_in (read_of world owner quota_name)

-- the object with the state of the slot of one folded name set
abbrev pub set_slot : Name → SlotState → WorldObject → WorldObject
set_slot name state entry =
    record entry {
      slot = λ slot_name. if same_text name slot_name
          then option_map (λ (slot : Slot). record slot { state = state }) (entry.slot slot_name)
          else entry.slot slot_name;
    }

-- so much is added to the quota of an owner, if it has one: its own slot is set, and that slot's owner and bits stay
abbrev pub quota_changed : World → ObjNo → ℤ → World
quota_changed world owner amount =
    elim (quota_of world owner) [ None ↦ world | Some had ↦ object_changed world owner (set_slot quota_name (Set (Int (had +ℤ amount)))) ]

-- the owner has no quota, or one above 0
abbrev pub has_quota_left : World → ObjNo → Bool
has_quota_left world owner = unwrap_or (option_map (λ quota. int_lt (pos 0) quota) (quota_of world owner)) true

-- no quota is asked for if #-1 was given as owner
abbrev pub may_afford : World → ObjNo → Bool
may_afford world owner = same_object nothing owner || has_quota_left world owner

-- one is taken from the quota of the owner, unless that is #-1
abbrev pub charged : World → ObjNo → World
charged world owner = if same_object nothing owner then world else quota_changed world owner -1

-- one is given back to the quota of the owner; a quota at the greatest integer stays
abbrev pub quota_returned : World → ObjNo → World
quota_returned world owner =
    if unwrap_or (option_map (λ quota. int_lt quota (pos 9223372036854775807)) (quota_of world owner)) false
    then quota_changed world owner (pos 1)
    else world
