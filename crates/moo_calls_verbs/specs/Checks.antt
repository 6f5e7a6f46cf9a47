-- The checks that several calls share, and the outcome of such a call by them: the first check that fails,
-- else what the call goes on to with what the checks found.
use Rattle.moo_value.specs.declared.value.ObjNo.{ObjNo}
use Rattle.moo_rows.specs.{Bits.{verb_bits_of}, declared.row.VerbBits.{VerbBits}, declared.row.VerbRow.{VerbRow}}
use Rattle.moo_world.specs.{declared.descriptor.Desc.{Desc}, Objects.{Name}, World.{World, is_object, has_word}, Arguments.{Info}}
use Rattle.moo_world.specs.declared.reason.Reason.TheVariants.{NoObject, NoVerb, NoVerbR, VerbPerms, VerbNames}
use Rattle.moo_world.specs.{Outcomes.{Outcome, require◌else◌, ◌>>◌, ◌or_else◌, ◌>>=◌}, Rights.{may_read_verb}, Descriptors.{found_verb}}

-- a call that reads a verb: it fails unless there is the object, the descriptor means a verb of that object itself, and the programmer may
-- read the verb; then it goes on with the verb
abbrev pub reading_verb : World → ObjNo → ObjNo → Desc → (VerbRow → Outcome World) → Outcome World
reading_verb world programmer object descriptor then = do
  require is_object world object else NoObject object
  (place, verb) ← found_verb world object descriptor or_else NoVerb object
  require may_read_verb world programmer verb else NoVerbR object
  then verb

-- a call that gives a verb an owner, rights and names: it fails unless the owner is an object, the rights are of the letters `r`, `w`, `x`
-- and `d` alone, and the names have a word; then it goes on with the rights
abbrev pub taking_verb_info : World → Info → Name → (VerbBits → Outcome World) → Outcome World
taking_verb_info world (owner, perms) names then = do
  require is_object world owner else NoObject owner
  bits ← verb_bits_of perms or_else VerbPerms
  require has_word names else VerbNames
  then bits
