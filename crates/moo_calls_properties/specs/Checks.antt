-- The checks that several calls share, and the outcome of such a call by them: the first check that fails,
-- else what the call goes on to with what the checks found.
use Rattle.moo_value.specs.declared.value.ObjNo.{ObjNo}
use Rattle.moo_rows.specs.{Bits.{bits_of}, declared.row.Bits.{Bits}}
use Rattle.moo_world.specs.{Objects.{Name, folded}, World.{World, Slot, is_object, slot_of}, Arguments.{Info}}
use Rattle.moo_world.specs.declared.reason.Reason.TheVariants.{NoObject, NoProperty, NoPropertyR, NoPropertyW, PropertyPerms}
use Rattle.moo_world.specs.{Outcomes.{Outcome, require◌else◌, ◌>>◌, ◌or_else◌, ◌>>=◌}, Rights.{may_read_slot, may_write_slot}}

-- a call that reads a slot: it fails unless the object has a property of the name and the programmer may read its slot on that object;
-- then it goes on with the slot
abbrev pub reading_slot : World → ObjNo → ObjNo → Name → (Slot → Outcome World) → Outcome World
reading_slot world programmer object name then = do
  slot ← slot_of world object (folded name) or_else NoProperty object
  require may_read_slot world programmer slot else NoPropertyR object
  then slot

-- a call that writes a slot: it fails unless the object has a property of the name and the programmer may write its slot on that object;
-- then it goes on with the slot
abbrev pub writing_slot : World → ObjNo → ObjNo → Name → (Slot → Outcome World) → Outcome World
writing_slot world programmer object name then = do
  slot ← slot_of world object (folded name) or_else NoProperty object
  require may_write_slot world programmer slot else NoPropertyW object
  then slot

-- a call that gives a property an owner and rights: it fails unless the owner is an object and the rights are of the letters `r`, `w` and
-- `c` alone; then it goes on with the rights
abbrev pub taking_property_info : World → Info → (Bits → Outcome World) → Outcome World
taking_property_info world (owner, perms) then = do
  require is_object world owner else NoObject owner
  bits ← bits_of perms or_else PropertyPerms
  then bits
