-- What each call on properties does: its checks, in their order, and then its answer and the world that it leaves. How to read a definition
-- is explained at the head of Calls.
-- From the LambdaMOO Programmer's Manual: 'Properties on Objects' in the chapter on the database, 'Getting and Setting the Values of
-- Properties', and 'Operations on Properties' in the part on built-in functions. The manual doesn't give the order of the checks: it is
-- that of the lines here. Three things are this server's own: that `get` and `set` are calls, for the expression `object.name` and the
-- assignment to it; that a new owner has to be an object; and that the present name in another case isn't a new name.
use Rattle.std.specs.Prelude.{Bool, true, false, not, ◌&&◌, ◌||◌, nat_lt, [], ◌∷◌, ◌++◌, Option, Some, None, Result, Ok, Err, unwrap_or}
use Rattle.std.specs.{Prelude.{if◌then◌else◌}, List.{list_any, find}}
use Rattle.moo_value.specs.{declared.value.ObjNo.{ObjNo}, declared.value.Value.{Value}, declared.value.Value.TheVariants.{Obj, Str}}
use Rattle.moo_value.specs.Value.{is_true}
use Rattle.moo_rows.specs.{Bits.{bits_of, letters_of}, declared.row.SlotState.{SlotState}, declared.row.SlotState.TheVariants.{Clear, Set}}
use Rattle.moo_world.specs.declared.built_in.BuiltIn.{BuiltIn}
use Rattle.moo_world.specs.declared.built_in.BuiltIn.TheVariants.{Name as NameField, Owner, Location, Contents, Programmer, Wizard, R, W, F}
use Rattle.moo_world.specs.declared.change.Change.{Change}
use Rattle.moo_world.specs.declared.change.Change.TheVariants as to
use Rattle.moo_world.specs.Objects.{Name, nothing, same_object, same_text, folded, number_limit}
use Rattle.moo_world.specs.World.{World, is_object, row_passes, chain, property_names_of, slot_of, read_of, is_property_name}
use Rattle.moo_world.specs.ObjectLists.{walk_down}
use Rattle.moo_world.specs.{Outcomes.{Outcome, Done, require_room, require◌else◌, ◌>>◌, taken_for, ◌or_else◌, ◌>>=◌}, Arguments.{Info}}
use Rattle.moo_world.specs.{Answers.{zero, flag, list_of, text_list}, BuiltIns.{built_in, field_of}}
use Rattle.moo_world.specs.Rights.{is_wizard, controls, may_set_name, may_make_owner, may_read_object, may_write_object, may_read_slot}
use Rattle.moo_world.specs.Rights.{may_write_slot}
use Rattle.moo_world.specs.Changes.{clashes, property_added, property_removed, property_renamed, value_set, cleared, info_set}
use Rattle.moo_world.specs.{Fields.{field_changed}, declared.reason.Reason.{Reason}}
use Rattle.moo_world.specs.declared.reason.Reason.TheVariants.{NoWizard, NoObject, NoTarget, NotControlled, NoOwner, NoObjectR, NoObjectW}
use Rattle.moo_world.specs.declared.reason.Reason.TheVariants.{NeverSet, NotTaken, NamesPlayer, NoProperty, NotDefined, NotRenamed}
use Rattle.moo_world.specs.declared.reason.Reason.TheVariants.{NotInherited, NoPropertyName, NameTaken, NoPropertyR, NoPropertyW, NotGiven}
use Rattle.moo_world.specs.declared.reason.Reason.TheVariants.{PropertyPerms}

-- the outcome for a built-in property, or for any other
abbrev pub by_field : Option BuiltIn → (BuiltIn → Outcome World) → Outcome World → Outcome World
by_field None field other = other
by_field (Some f) field other = field f

-- ---- reading

-- a property that isn't built in: what the object reads, or 0 if no slot up the chain is set, which no well formed world has
abbrev pub get_property : World → ObjNo → ObjNo → Name → Outcome World
get_property world programmer object name = do
  slot ← slot_of world object (folded name) or_else NoProperty object
  require may_read_slot world programmer slot else NoPropertyR object
  Done (unwrap_or (read_of world object (folded name)) zero) world

-- the value of a property of an object, built in or not
abbrev pub get : World → ObjNo → ObjNo → Name → Outcome World
get world programmer object name = do
  require is_object world object else NoTarget object
  by_field (built_in name) (λ field. Done (field_of world object field) world) (get_property world programmer object name)

-- the names of the properties that an object itself defines
abbrev pub properties : World → ObjNo → ObjNo → Outcome World
properties world programmer object = do
  require is_object world object else NoObject object
  require may_read_object world programmer object else NoObjectR object
  Done (text_list (property_names_of world object)) world

-- the owner and the rights of a property on an object
abbrev pub property_info : World → ObjNo → ObjNo → Name → Outcome World
property_info world programmer object name = do
  require is_object world object else NoObject object
  slot ← slot_of world object (folded name) or_else NoProperty object
  require may_read_slot world programmer slot else NoPropertyR object
  Done (list_of (Obj slot.owner ∷ Str (letters_of slot.bits) ∷ [])) world

-- the slot has no value of its own
abbrev pub is_clear : SlotState → Bool
is_clear Clear = true
is_clear (Set value) = false

-- whether the slot of a property on an object is clear
abbrev pub is_clear_property : World → ObjNo → ObjNo → Name → Outcome World
is_clear_property world programmer object name = do
  require is_object world object else NoObject object
  slot ← slot_of world object (folded name) or_else NoProperty object
  require may_read_slot world programmer slot else NoPropertyR object
  Done (flag (is_clear slot.state)) world

-- ---- setting

-- The change that a value makes to a field, or why it makes none. A bit (programmer, wizard, r, w or f) takes the truth of the value.
abbrev pub change_of : BuiltIn → Value → Result Change Reason
change_of Location value = Err NeverSet
change_of Contents value = Err NeverSet
change_of NameField (Str text) = Ok (to.Name text)
change_of Owner (Obj owner) = Ok (to.Owner owner)
change_of Programmer value = Ok (to.Programmer (is_true value))
change_of Wizard value = Ok (to.Wizard (is_true value))
change_of R value = Ok (to.Readable (is_true value))
change_of W value = Ok (to.Writable (is_true value))
change_of F value = Ok (to.Fertile (is_true value))
change_of field value = Err NotTaken

-- r, w and f are set by the owner or a wizard, owner and the other bits by a wizard only, and the name as `may_set_name` says
abbrev pub may_set : World → ObjNo → ObjNo → BuiltIn → Bool
may_set world programmer object NameField = may_set_name world programmer object
may_set world programmer object R = controls world programmer object
may_set world programmer object W = controls world programmer object
may_set world programmer object F = controls world programmer object
may_set world programmer object field = is_wizard world programmer

-- why the programmer may not set the field
abbrev pub unset_reason : World → ObjNo → BuiltIn → Reason
unset_reason world object NameField = if row_passes (λ row. row.player) world object then NamesPlayer object else NotControlled object
unset_reason world object R = NotControlled object
unset_reason world object W = NotControlled object
unset_reason world object F = NotControlled object
unset_reason world object field = NoWizard

-- a new owner has to be an object
abbrev pub owner_is_object : World → Change → Bool
owner_is_object world (to.Owner owner) = is_object world owner
owner_is_object world change = true

-- the new owner, or #-1 if the change gives none
abbrev pub owner_given : Change → ObjNo
owner_given (to.Owner owner) = owner
owner_given change = nothing

-- sets a built-in property of an object
abbrev pub set_built_in : World → ObjNo → ObjNo → BuiltIn → Value → Outcome World
set_built_in world programmer object field value = do
  change ← taken_for (change_of field value)
  require may_set world programmer object field else unset_reason world object field
  require owner_is_object world change else NoObject (owner_given change)
  Done zero (field_changed world object change)

-- sets the value of a property that isn't built in, on one object
abbrev pub set_property : World → ObjNo → ObjNo → Name → Value → Outcome World
set_property world programmer object name value = do
  slot ← slot_of world object (folded name) or_else NoProperty object
  require may_write_slot world programmer slot else NoPropertyW object
  Done zero (value_set world object name value)

-- sets the value of a property of an object, built in or not
abbrev pub set : World → ObjNo → ObjNo → Name → Value → Outcome World
set world programmer object name value = do
  require is_object world object else NoTarget object
  by_field (built_in name) (λ field. set_built_in world programmer object field value) (set_property world programmer object name value)

-- ---- definitions

-- the object itself defines a property of the name
abbrev pub defines_name : World → ObjNo → Name → Bool
defines_name world object name = list_any (λ defined_name. same_text (folded defined_name) (folded name)) (property_names_of world object)

-- the first of the object, its ancestors and its descendants that defines a property of the name, or #-1
abbrev pub first_to_define : World → ObjNo → Name → ObjNo
first_to_define world object name =
    unwrap_or (find (λ other. defines_name world other name) (chain world object ++ walk_down world object)) nothing

-- the name may be given to a new property of the object
abbrev pub may_define : World → ObjNo → Name → Bool
may_define world object name = is_property_name name && not (clashes world object name)

-- why the name may not be given to a new property of the object
abbrev pub undefined_reason : World → ObjNo → Name → Reason
undefined_reason world object name = if is_property_name name then NameTaken (first_to_define world object name) else NoPropertyName

-- defines a property on an object
abbrev pub add_property : World → ObjNo → ObjNo → Name → Value → Info → Outcome World
add_property world programmer object name value (owner, perms) = do
  require is_object world object else NoObject object
  require is_object world owner else NoObject owner
  bits ← bits_of perms or_else PropertyPerms
  require may_write_object world programmer object else NoObjectW object
  require may_make_owner world programmer owner else NoOwner owner
  require may_define world object name else undefined_reason world object name
  require_room (nat_lt world.next_prop number_limit)
  Done zero (property_added world object name (record { definer = object; owner = owner; bits = bits; state = Set value }))

-- removes a property that an object itself defines
abbrev pub delete_property : World → ObjNo → ObjNo → Name → Outcome World
delete_property world programmer object name = do
  require is_object world object else NoObject object
  require may_write_object world programmer object else NoObjectW object
  require defines_name world object name else NotDefined object
  Done zero (property_removed world object name)

-- no new name is given, or the object itself defines the property and might define one of the new name
abbrev pub may_rename : World → ObjNo → Name → Option Name → Bool
may_rename world object name None = true
may_rename world object name (Some new_name) = defines_name world object name && may_define world object new_name

-- why the property may not have the new name
abbrev pub unrenamed_reason : World → ObjNo → Name → Option Name → Reason
unrenamed_reason world object name new_name =
    if defines_name world object name then undefined_reason world object (unwrap_or new_name name) else NotRenamed object

-- the world with the new name, if one is given
abbrev pub renamed_to : World → ObjNo → Name → Option Name → World
renamed_to world object name None = world
renamed_to world object name (Some new_name) = property_renamed world object name new_name

-- sets the owner and the rights of a property on an object, and its name if a new one is given
abbrev pub set_property_info : World → ObjNo → ObjNo → Name → Info → Option Name → Outcome World
set_property_info world programmer object name (owner, perms) new_name = do
  require is_object world object else NoObject object
  slot ← slot_of world object (folded name) or_else NoProperty object
  require is_object world owner else NoObject owner
  bits ← bits_of perms or_else PropertyPerms
  require may_write_slot world programmer slot else NoPropertyW object
  require same_object owner slot.owner || is_wizard world programmer else NotGiven owner
  require may_rename world object name new_name else unrenamed_reason world object name new_name
  Done zero (renamed_to (info_set world object name owner bits) object name new_name)

-- clears the slot of a property on an object that doesn't define it
abbrev pub clear_property : World → ObjNo → ObjNo → Name → Outcome World
clear_property world programmer object name = do
  require is_object world object else NoObject object
  slot ← slot_of world object (folded name) or_else NoProperty object
  require may_write_slot world programmer slot else NoPropertyW object
  require not (same_object slot.definer object) else NotInherited object
  Done zero (cleared world object name)
