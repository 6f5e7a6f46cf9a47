-- What recycling an object leaves.
-- LambdaMOO Programmer's Manual, 'Fundamental Operations on Objects': `recycle`.
use Rattle.std.specs.{Prelude.{None, unwrap_or, if◌then◌else◌}, Option.{option_map}}
use Rattle.moo_value.specs.declared.value.ObjNo.{ObjNo}
use Rattle.moo_world.specs.{Objects.{nothing, same_object}, World.{World, WorldObject, parent_of, rebuilt}}

-- What becomes of another object if this one is gone. If it was a child, the parent of the one that is gone is its parent. If it was
-- inside, it is nowhere.
abbrev pub released : ObjNo → ObjNo → WorldObject → WorldObject
released gone gone_parent entry = record entry {
  row = record entry.row {
    parent = if same_object gone entry.row.parent then gone_parent else entry.row.parent;
    location = if same_object gone entry.row.location then nothing else entry.row.location;
  };
}

-- the world without the object, with its children and contents released, before slots are rebuilt
abbrev pub object_removed : World → ObjNo → World
object_removed world gone = record world { object = λ other. if same_object gone other then None else option_map (released gone (unwrap_or (parent_of world gone) nothing)) (world.object other) }

-- Each object that stays loses the properties that the recycled one defined, and gains none. So no parent is given to `rebuilt`. The law
-- `RecyclingTakesOwn` in Laws says what this leaves, slot by slot.
abbrev pub recycled : World → ObjNo → World
recycled world gone = rebuilt world (object_removed world gone) nothing
