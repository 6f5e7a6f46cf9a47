-- A new object.
-- LambdaMOO Programmer's Manual, 'Fundamental Operations on Objects': `create`.
use Rattle.std.specs.Prelude.{pos, ◌+ℤ◌, int_lt, [], Option, Some, None, if◌then◌else◌}
use Rattle.moo_value.specs.declared.value.ObjNo.{ObjNo}
use Rattle.moo_rows.specs.PlainRow.{plain_row}
use Rattle.moo_world.specs.{Objects.{nothing, same_object}, World.{World, WorldObject, rebuilt}}

-- the number of the next object, if one is left
abbrev pub next_object : World → Option ObjNo
next_object world = if int_lt world.top (pos 2147483647) then Some (record { 0 = world.top +ℤ pos 1 }) else None

-- an object owns itself if #-1 was given as owner
abbrev pub owner_or_self : ObjNo → ObjNo → ObjNo
owner_or_self object owner = if same_object nothing owner then object else owner

-- a new object: no name, nowhere, no rights, no slots yet
abbrev pub plain_object : ObjNo → ObjNo → WorldObject
plain_object parent owner = record {
  row = plain_row [] owner parent;
  defines = [];
  slot = λ name. None;
  verbs = [];
}

-- the world with one object more, whose number is now the greatest that was given
abbrev pub object_added : World → ObjNo → WorldObject → World
object_added world object entry =
    record world { object = λ other. if same_object object other then Some entry else world.object other; top = object.0 }

-- the new object gets a fresh slot for each property of its parent
abbrev pub created : World → ObjNo → ObjNo → ObjNo → World
created world object parent owner = rebuilt world (object_added world object (plain_object parent owner)) parent
