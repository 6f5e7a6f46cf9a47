-- What two states may differ in, so that no batch of a programmer who isn't a wizard tells them apart, no matter what it changes.
use Rattle.std.specs.Prelude.{◌≡◌, Bool, true, not, ◌&&◌, ◌||◌, ◌⊎◌, Option, Some, None, is_some, if◌then◌else◌}
use Rattle.std.specs.{Option.{option_map, option_and_then}, List.{list_all}, FinMap.{get}}
use Rattle.moo_value.specs.declared.value.ObjNo.{ObjNo}
use Rattle.moo_rows.specs.{declared.row.PetitionId.{PetitionId}, declared.row.PetitionRow.{PetitionRow}}
use Rattle.moo_world.specs.{declared.call.Batch.{Batch}, Judge.{State}, KeptForm.{arguments_fit}, Objects.{Name, same_object, same_text}}
use Rattle.moo_world.specs.{Quota.{quota_name}, World.{World, Slot, SameButSlots, slot_of}}
use Rattle.moo_laws.specs.Reading.{emptied_slot}

-- ---- guarded properties

-- A slot is shut to a programmer: it is somebody else's, and has none of the bits r, w and c. A quota isn't, whoever has it: `create` tells
-- of it.
abbrev pub is_shut : ObjNo → Name → Slot → Bool
is_shut programmer name slot =
    not (same_object programmer slot.owner || (slot.bits.r || (slot.bits.w || (slot.bits.c || same_text name quota_name))))

-- A property is guarded from a programmer, by its definer and folded name: each slot of it, on the definer and on those under it, is shut.
abbrev pub IsGuarded : World → ObjNo → ObjNo → Name → Type 0
IsGuarded world programmer definer name = (object : ObjNo) (slot : Slot) → slot_of world object name ≡ Some slot →
    slot.definer ≡ definer → is_shut programmer name slot ≡ true

-- The worlds are the same but for guarded values: a slot is the same in both, or its property is guarded and it has another value, or none.
pub record SameButGuarded (programmer : ObjNo) (world other : World) : Type 0 where
  pub rest : SameButSlots world other
  pub slots : (object : ObjNo) (name : Name) →
      option_map emptied_slot (slot_of other object name) ≡ option_map emptied_slot (slot_of world object name)
  pub values : (object : ObjNo) (name : Name) (slot : Slot) → slot_of world object name ≡ Some slot →
      (slot_of other object name ≡ Some slot) ⊎ IsGuarded world programmer slot.definer name

-- ---- states

-- the petition of this number, if there is one and it is the programmer's own
abbrev pub own_petition : State → ObjNo → PetitionId → Option PetitionRow
own_petition state programmer id =
    option_and_then (λ row. if same_object row.who programmer then Some row else None) (get state.petitions id)

-- Two states are alike for a programmer: their worlds are the same but for guarded values. There are petitions of the same numbers, and
-- the programmer's own are the same. The number of the next petition is the same, and as many batches were accepted.
pub record AlikeFor (programmer : ObjNo) (state other : State) : Type 0 where
  pub worlds : SameButGuarded programmer state.world other.world
  pub numbers : (id : PetitionId) → is_some (get other.petitions id) ≡ is_some (get state.petitions id)
  pub own : (id : PetitionId) → own_petition other programmer id ≡ own_petition state programmer id
  pub next : other.next_petition ≡ state.next_petition
  pub accepted : other.seq ≡ state.seq

-- a batch of this programmer, who gives values within the limits of literals
abbrev pub is_batch_of : ObjNo → Batch → Bool
is_batch_of programmer batch = same_object batch.programmer programmer && list_all arguments_fit batch.calls
