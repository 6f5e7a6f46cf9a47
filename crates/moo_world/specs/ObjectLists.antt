-- Lists of objects, in ascending order.
use Rattle.std.specs.Prelude.{ℕ, zero, suc, ◌-◌, Bool, List, [], ◌∷◌, map, length, is_some, unwrap_or, if◌then◌else◌}
use Rattle.std.specs.List.{list_any, filter, find, flat_map}
use Rattle.moo_value.specs.declared.value.ObjNo.{ObjNo}
use Rattle.moo_world.specs.Objects.{Property, nothing, object_at, same_object, folded, is_among}
use Rattle.moo_world.specs.World.{World, is_object, row_passes, chain, defined_by_any, property_named, property_names_of, numbers_to}
use Rattle.moo_world.specs.Rows.{numbers_below}

-- all objects
abbrev pub objects_of : World → List ObjNo
objects_of world = filter (is_object world) (map object_at (numbers_below (numbers_to world.top)))

-- the object is the parent of the other
abbrev pub is_parent_of : World → ObjNo → ObjNo → Bool
is_parent_of world object other = row_passes (λ row. same_object object row.parent) world other

-- the children of an object
abbrev pub children_of : World → ObjNo → List ObjNo
children_of world object = filter (is_parent_of world object) (objects_of world)

-- the objects whose location is the object
abbrev pub contents_of : World → ObjNo → List ObjNo
contents_of world object = filter (row_passes (λ row. same_object object row.location) world) (objects_of world)

-- the objects with the player flag
abbrev pub players_of : World → List ObjNo
players_of world = filter (row_passes (λ row. row.player) world) (objects_of world)

-- an object and its descendants
abbrev pub subtree_of : World → ObjNo → List ObjNo
subtree_of world object = filter (λ other. is_among object (chain world other)) (objects_of world)

-- the object or a descendant of it defines a property of the same name as one that the new parent has
abbrev pub shares_property_name : World → ObjNo → ObjNo → Bool
shares_property_name world object new_parent =
    list_any (λ (property : Property). is_some (property_named (defined_by_any world (chain world new_parent)) (folded property.1)))
    (defined_by_any world (subtree_of world object))

-- ---- the walk down from an object: each object comes before its children, and these in ascending order

-- what is below an object, so many levels deep
abbrev pub below : ℕ → World → ObjNo → List ObjNo
below zero world object = []
below (suc levels) world object = flat_map (λ child. child ∷ below levels world child) (children_of world object)

-- how many levels there may be below an object
abbrev pub levels_below : World → ObjNo → ℕ
levels_below world object = numbers_to world.top - length (chain world object)

-- the object and all that is below it
abbrev pub walk_down : World → ObjNo → List ObjNo
walk_down world object = if is_object world object then object ∷ below (levels_below world object) world object else []

-- the object itself defines a property of a name that the new parent has
abbrev pub meets_on : World → ObjNo → ObjNo → Bool
meets_on world new_parent object =
    list_any (λ name. is_some (property_named (defined_by_any world (chain world new_parent)) (folded name)))
    (property_names_of world object)

-- the first of the object and its descendants that itself defines a property of a name that the new parent has, or #-1
abbrev pub first_to_meet : World → ObjNo → ObjNo → ObjNo
first_to_meet world object new_parent = unwrap_or (find (meets_on world new_parent) (walk_down world object)) nothing
