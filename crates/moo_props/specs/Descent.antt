-- The walk down from an object, which takes no memory: each object comes before its children, and these in ascending order.
use Rattle.std.specs.{Prelude.{List, [], ◌∷◌, ◌++◌, map, drop, Option, None, Some, if◌then◌else◌}, List.{flat_map}}
use Rattle.moo_value.specs.declared.value.ObjNo.{ObjNo}
use Rattle.moo_rows.specs.{declared.row.Link.TheVariants.{ChildOf}, Links.{linked_left}, Maps.{Maps}}
use Rattle.moo_world.specs.{ObjectLists.{below, levels_below}, Objects.{same_object}, Rows.{world_of}, World.{World, chain}}

-- the children of an object past one of them
abbrev pub children_past : Maps → ObjNo → ObjNo → List ObjNo
children_past maps object from = map (λ pair. pair.0) (linked_left (ChildOf object) from maps)

-- all that is below an object
abbrev pub descendants : World → ObjNo → List ObjNo
descendants world object = below (levels_below world object) world object

-- objects, each with all that is below it
abbrev pub branches : World → List ObjNo → List ObjNo
branches world objects = flat_map (λ object. object ∷ descendants world object) objects

-- what comes after an object and all that is below it, up to the end of the subtree of the top, by the ancestors of the object
abbrev pub after_branch : Maps → ObjNo → ObjNo → List ObjNo → List ObjNo
after_branch maps top object [] = []
after_branch maps top object (parent ∷ ancestors) =
    if same_object top object then []
    else branches (world_of maps) (children_past maps parent object) ++ after_branch maps top parent ancestors

-- what comes after an object and all that is below it, in the subtree of the top
abbrev pub after_below : Maps → ObjNo → ObjNo → List ObjNo
after_below maps top object = after_branch maps top object (drop 1 (chain (world_of maps) object))

-- what comes after an object in the subtree of the top
abbrev pub walk_after : Maps → ObjNo → ObjNo → List ObjNo
walk_after maps top object = descendants (world_of maps) object ++ after_below maps top object

-- the walk from an object on, or its end
abbrev pub from_here : Maps → ObjNo → Option ObjNo → List ObjNo
from_here maps top None = []
from_here maps top (Some object) = object ∷ walk_after maps top object
