-- The children of an object that is recycled, moved to its parent one by one, each in the manual's own words.
-- LambdaMOO Programmer's Manual, 'Fundamental Operations on Objects': `recycle` and `chparent`.
use Rattle.std.specs.{Prelude.{◌≡◌, List, [], ◌∷◌, ⊤, None, Some, if◌then◌else◌}, Option.{option_map}}
use Rattle.moo_value.specs.declared.value.ObjNo.{ObjNo}
use Rattle.moo_world.specs.Objects.{nothing, same_object, is_among}
use Rattle.moo_world.specs.{World.{World, WorldObject, IsWellFormed, parent_of, with_slots, with_parent, reparented}, Laws.{MayReparent}}
use Rattle.moo_world.specs.{Manual.{manual_slot}, ObjectLists.{is_parent_of, children_of}, Recycling.{recycled}}

-- the object under its new parent, and every object with the slots that it then has in the manual's wording
abbrev pub manually_moved : World → ObjNo → ObjNo → World
manually_moved world object parent = record world {
  object = λ other. option_map (with_slots (manual_slot world object parent other))
      ((with_parent world object parent).object other);
}

-- if a change of parent may be made, the world that the manual's words give is the model's
abbrev pub ManualMoveHolds : Type 0
ManualMoveHolds = (world : World) (object parent : ObjNo) → MayReparent world object parent →
    manually_moved world object parent ≡ reparented world object parent

-- objects moved to a parent one by one, each in the world that the move before it left
abbrev pub moved_one_by_one : World → List ObjNo → ObjNo → World
moved_one_by_one world [] parent = world
moved_one_by_one world (child ∷ rest) parent = moved_one_by_one (manually_moved world child parent) rest parent

-- each of these moves starts on a well formed world and meets what a change of parent asks
abbrev pub MayMoveOneByOne : World → List ObjNo → ObjNo → Type 0
MayMoveOneByOne world [] parent = ⊤
MayMoveOneByOne world (child ∷ rest) parent =
    MayReparent world child parent × MayMoveOneByOne (manually_moved world child parent) rest parent

-- what is in the object is nowhere
abbrev pub emptied : ObjNo → WorldObject → WorldObject
emptied object entry =
    record entry { row = record entry.row { location = if same_object object entry.row.location then nothing else entry.row.location } }

-- the record of the object gone and its contents moved to nothing: no other parent and no slot changes
abbrev pub taken_out : World → ObjNo → World
taken_out world object =
    record world { object = λ other. if same_object object other then None else option_map (emptied object) (world.object other) }

-- a list that has the children of the object and nothing else, in any order
abbrev pub AreChildren : World → ObjNo → List ObjNo → Type 0
AreChildren world object children = (other : ObjNo) → is_among other children ≡ is_parent_of world object other

-- the children of the object may be moved to its parent one by one, and when it is then taken out, the world is the one that recycling it
-- leaves
abbrev pub MoveAsRecycled : World → ObjNo → ObjNo → List ObjNo → Type 0
MoveAsRecycled world object parent children =
    MayMoveOneByOne world children parent × (taken_out (moved_one_by_one world children parent) object ≡ recycled world object)

-- in any order the children may be moved one by one, as `MoveAsRecycled` says
abbrev pub ChildrenMoveOneByOne : Type 0
ChildrenMoveOneByOne = (world : World) (object parent : ObjNo) (children : List ObjNo) → IsWellFormed world →
    parent_of world object ≡ Some parent → AreChildren world object children → MoveAsRecycled world object parent children

-- in ascending order the children may be moved one by one, as `MoveAsRecycled` says
abbrev pub ChildrenMoveAscending : Type 0
ChildrenMoveAscending = (world : World) (object parent : ObjNo) → IsWellFormed world → parent_of world object ≡ Some parent →
    MoveAsRecycled world object parent (children_of world object)
