-- What each call on verbs does: its checks, in their order, and then its answer and the world that it leaves. How to read a definition is
-- explained at the head of Calls.
-- From the LambdaMOO Programmer's Manual: 'Operations on Verbs' in the part on built-in functions. The manual doesn't give the order of the
-- checks: it is that of the lines here. Two things are this server's own: that `add_verb` answers 0; and that by `set_verb_info` a
-- programmer who may write a verb may become its owner, and, unless a wizard, can name no other owner.
use Rattle.std.specs.Prelude.{nat_lt, [], ◌∷◌, map}
use Rattle.moo_value.specs.{declared.value.ObjNo.{ObjNo}, declared.value.Value.TheVariants.{Obj, Str}}
use Rattle.moo_rows.specs.Bits.{verb_bits_of, verb_letters_of}
use Rattle.moo_world.specs.{declared.descriptor.Desc.{Desc}, Objects.{Name, number_limit}, World.{World, is_object, has_word, directory_of}}
use Rattle.moo_world.specs.{Outcomes.{Outcome, Done, require_room, require◌else◌, ◌>>◌, ◌or_else◌, ◌>>=◌}, Arguments.{Info}}
use Rattle.moo_world.specs.Answers.{zero, list_of, text_list}
use Rattle.moo_world.specs.Rights.{may_make_owner, may_read_object, may_write_object, may_read_verb, may_write_verb}
use Rattle.moo_world.specs.{Prepositions.{prep_text, object_spec_text}, VerbReading.{args_of}, Descriptors.{found_verb}}
use Rattle.moo_world.specs.Directories.{verb_added, verb_removed, verb_info_set, verb_args_set}
use Rattle.moo_world.specs.declared.reason.Reason.TheVariants.{NoObject, NoOwner, NoObjectR, NoObjectW, NoVerb, NoVerbR, NoVerbW, VerbPerms}
use Rattle.moo_world.specs.declared.reason.Reason.TheVariants.{VerbNames, VerbArgs}

-- ---- reading

-- the names of the verbs of an object, in the order of its directory
abbrev pub verbs : World → ObjNo → ObjNo → Outcome World
verbs world programmer object = do
  require is_object world object else NoObject object
  require may_read_object world programmer object else NoObjectR object
  Done (text_list (map (λ verb. verb.names) (directory_of world object))) world

-- a verb's owner, rights and names
abbrev pub verb_info : World → ObjNo → ObjNo → Desc → Outcome World
verb_info world programmer object descriptor = do
  require is_object world object else NoObject object
  (place, verb) ← found_verb world object descriptor or_else NoVerb object
  require may_read_verb world programmer verb else NoVerbR object
  Done (list_of (Obj verb.owner ∷ Str (verb_letters_of verb.bits) ∷ Str verb.names ∷ [])) world

-- a verb's arguments: the direct object, the preposition and the indirect object
abbrev pub verb_args : World → ObjNo → ObjNo → Desc → Outcome World
verb_args world programmer object descriptor = do
  require is_object world object else NoObject object
  (place, verb) ← found_verb world object descriptor or_else NoVerb object
  require may_read_verb world programmer verb else NoVerbR object
  Done (list_of (Str (object_spec_text verb.args.dobj) ∷ Str (prep_text verb.args.prep) ∷ Str (object_spec_text verb.args.iobj) ∷ [])) world

-- ---- changing

-- adds a verb to an object, the last of its directory
abbrev pub add_verb : World → ObjNo → ObjNo → Info → Name → Name × Name × Name → Outcome World
add_verb world programmer object (owner, perms) names (dobj, prep, iobj) = do
  require is_object world object else NoObject object
  require is_object world owner else NoObject owner
  bits ← verb_bits_of perms or_else VerbPerms
  require has_word names else VerbNames
  args ← args_of dobj prep iobj or_else VerbArgs
  require may_write_object world programmer object else NoObjectW object
  require may_make_owner world programmer owner else NoOwner owner
  require_room (nat_lt world.next_verb number_limit)
  Done zero (verb_added world object (record { names = names; owner = owner; bits = bits; args = args }))

-- removes a verb of an object
abbrev pub delete_verb : World → ObjNo → ObjNo → Desc → Outcome World
delete_verb world programmer object descriptor = do
  require is_object world object else NoObject object
  require may_write_object world programmer object else NoObjectW object
  (place, verb) ← found_verb world object descriptor or_else NoVerb object
  Done zero (verb_removed world object place)

-- sets the owner, the rights and the names of a verb
abbrev pub set_verb_info : World → ObjNo → ObjNo → Desc → Info → Name → Outcome World
set_verb_info world programmer object descriptor (owner, perms) names = do
  require is_object world object else NoObject object
  (place, verb) ← found_verb world object descriptor or_else NoVerb object
  require is_object world owner else NoObject owner
  bits ← verb_bits_of perms or_else VerbPerms
  require has_word names else VerbNames
  require may_write_verb world programmer verb else NoVerbW object
  require may_make_owner world programmer owner else NoOwner owner
  Done zero (verb_info_set world object place owner bits names)

-- sets the arguments of a verb
abbrev pub set_verb_args : World → ObjNo → ObjNo → Desc → Name × Name × Name → Outcome World
set_verb_args world programmer object descriptor (dobj, prep, iobj) = do
  require is_object world object else NoObject object
  (place, verb) ← found_verb world object descriptor or_else NoVerb object
  args ← args_of dobj prep iobj or_else VerbArgs
  require may_write_verb world programmer verb else NoVerbW object
  Done zero (verb_args_set world object place args)
