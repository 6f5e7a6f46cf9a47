-- A change of parent, at the level of the rows: which slots go and which come.
use Rattle.std.specs.{Prelude.{Bool, false, not, ◌&&◌, List, [], ◌∷◌, map, ⊤, is_some, unwrap_or, if◌then◌else◌}, BTreeMap.{BTreeMap}}
use Rattle.std.specs.{Option.{option_map}, List.{filter}, FinMap.{get, insert}}
use Rattle.moo_value.specs.declared.value.ObjNo.{ObjNo}
use Rattle.moo_rows.specs.{declared.row.ObjRow.{ObjRow}, declared.row.PropId.{PropId}, declared.row.PropRow.{PropRow}}
use Rattle.moo_rows.specs.{Maps.{Maps, Held, object_cmp, wrote}, Ordered.{contents}}
use Rattle.moo_world.specs.Objects.{same_object, is_among}

-- ---- which properties are concerned

-- the object is of the first list and not of the second
abbrev pub is_only_of : List ObjNo → List ObjNo → ObjNo → Bool
is_only_of these others definer = is_among definer these && not (is_among definer others)

-- the properties of these entries whose definer passes the first test and not the second
abbrev pub defined_only : (ObjNo → Bool) → (ObjNo → Bool) → List (PropId × PropRow) → List PropId
defined_only these others pairs = map (λ pair. pair.0) (filter (λ pair. these pair.1.definer && not (others pair.1.definer)) pairs)

-- the properties of these entries whose definer is of the first list and not of the second
abbrev pub props_only_of : List ObjNo → List ObjNo → List (PropId × PropRow) → List PropId
props_only_of these others pairs = defined_only (λ object. is_among object these) (λ object. is_among object others) pairs

-- an object that passes the first test, and not the second, defines the property
abbrev pub is_defined_only : (ObjNo → Bool) → (ObjNo → Bool) → Maps → PropId → Bool
is_defined_only these others maps id =
    unwrap_or (option_map (λ row. these row.definer && not (others row.definer)) (get maps.props id)) false

-- the object is a key of the map
abbrev pub is_key : BTreeMap ObjNo ⊤ → ObjNo → Bool
is_key keys object = is_some (get (contents object_cmp keys) object)

-- ---- the parent link

-- the object's row with the new parent is put, unless that is its parent
abbrev pub relinked : ObjNo → ObjRow → ObjNo → Held → Held
relinked object row new_parent held =
    if same_object row.parent new_parent
    then held
    else wrote held (record (held.maps) { objects = insert held.maps.objects object (record row { parent = new_parent }) })

-- the object alone if the new parent isn't its parent, and else none
abbrev pub relinked_list : ObjNo → ObjRow → ObjNo → List ObjNo
relinked_list object row new_parent = if same_object row.parent new_parent then [] else object ∷ []
