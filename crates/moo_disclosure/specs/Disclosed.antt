-- What a refusal tells of the world besides its reason and what the call was given.
use Rattle.std.specs.Prelude.{Bool, true, false, ◌||◌, List, [], ◌∷◌, Option, Some, None, is_some, if◌then◌else◌, take}
use Rattle.std.specs.{List.{find, flat_map}, Option.{option_and_then}, FinMap.{get}}
use Rattle.moo_value.specs.{declared.value.ObjNo.{ObjNo}, declared.value.Value.{Value}, declared.value.Value.TheVariants.{Obj, Str}}
use Rattle.moo_value.specs.Values.{Values}
use Rattle.moo_rows.specs.{Maps.{Maps}, declared.row.PetitionId.{PetitionId}}
use Rattle.moo_world.specs.declared.name.CallName.{CallName}
use Rattle.moo_world.specs.declared.name.CallName.TheVariants.{Get, Set, PropertyInfo, ClearProperty, IsClearProperty, DeleteProperty}
use Rattle.moo_world.specs.{declared.name.CallName.TheVariants.{SetPropertyInfo}, Objects.{Name, folded, same_object}}
use Rattle.moo_world.specs.{Rights.{is_wizard, may_read_object}, Rows.{world_of}, World.{World, chain, property_names_of, slot_of}}
use Rattle.moo_world.specs.declared.reason.Reason.{Reason}
use Rattle.moo_world.specs.declared.reason.Reason.TheVariants.{NoProperty, NotDefined, NotRenamed, NameShared}

-- ---- names that the call may have meant

-- the names of properties that the programmer may list on an object: those that `properties` answers
abbrev pub names_listed : World → ObjNo → ObjNo → List Name
names_listed world programmer object = if may_read_object world programmer object then property_names_of world object else []

-- the objects on which the property of a call may be defined, of the object and its ancestors: all of them for a call that reads, sets or
-- clears a property, the object alone for one that deletes or renames it, and none for another call
abbrev pub objects_searched : CallName → List ObjNo → List ObjNo
objects_searched call chain = elim call [
  | Get ↦ chain
  | Set ↦ chain
  | PropertyInfo ↦ chain
  | ClearProperty ↦ chain
  | IsClearProperty ↦ chain
  | DeleteProperty ↦ take 1 chain
  | SetPropertyInfo ↦ take 1 chain
  | _ ↦ []
]

-- the object and the name that are a call's first two arguments
abbrev pub property_given : List Value → Option (ObjNo × Name)
property_given (Obj object ∷ Str name ∷ rest) = Some (object, name)
property_given args = None

-- whether the reason is that the object hasn't, or doesn't define, a property of the name
abbrev pub lacks_property : Reason → Bool
lacks_property reason = elim reason [ NoProperty object ↦ true | NotDefined object ↦ true | NotRenamed object ↦ true | _ ↦ false ]

-- the first 200 names that the programmer may list on the objects where the call looks for its property, if the object has no property of
-- the name
abbrev pub names_near : World → ObjNo → CallName → ObjNo × Name → List Name
names_near world programmer call (object, name) = if is_some (slot_of world object (folded name)) then []
    else take 200 (flat_map (names_listed world programmer) (objects_searched call (chain world object)))

-- the names among which the call may have meant one, if it was refused for the want of a property
abbrev pub names_meant : World → ObjNo → CallName → List Value → Reason → List Name
names_meant world programmer call args reason =
    if lacks_property reason then elim (property_given args) [ None ↦ [] | Some given ↦ names_near world programmer call given ] else []

-- ---- the name that clashes

-- the first name of a property that the definer defines and the new parent has, of its first 200 names
abbrev pub name_shared : World → ObjNo → ObjNo → Option Name
name_shared world definer new_parent =
    find (λ name. is_some (slot_of world new_parent (folded name))) (take 200 (property_names_of world definer))

-- the new parent that a call of `chparent` gives
abbrev pub new_parent_given : List Value → Option ObjNo
new_parent_given (object ∷ Obj new_parent ∷ rest) = Some new_parent
new_parent_given args = None

-- the name of a property that keeps the object from its new parent, if the programmer may list what its definer defines
abbrev pub clash_name : World → ObjNo → List Value → Reason → Option Name
clash_name world programmer args reason = elim reason [
  | NameShared definer ↦ if may_read_object world programmer definer
      then option_and_then (name_shared world definer) (new_parent_given args) else None
  | _ ↦ None
]

-- ---- the petition that is granted

-- what the petition of a number asks for, if there is one and the programmer may see it
abbrev pub calls_seen : Maps → ObjNo → PetitionId → Option Values
calls_seen maps programmer id = option_and_then (λ row.
    if is_wizard (world_of maps) programmer || same_object row.who programmer then Some row.calls else None) (get maps.petitions id)
