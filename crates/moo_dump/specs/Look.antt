-- What one object looks like.
use Rattle.std.specs.{Prelude.{Option}, Option.{option_map}}
use Rattle.moo_value.specs.declared.value.ObjNo.{ObjNo}
use Rattle.moo_dump.specs.declared.seen.Look.{Look}
use Rattle.moo_world.specs.{ObjectLists.{children_of, contents_of}, World.{World, WorldObject}}

-- the fields of an object's record, its children and what is in it
abbrev pub look_at : World → ObjNo → WorldObject → Look
look_at w x r = record {
  name = r.row.name;
  owner = r.row.owner;
  parent = r.row.parent;
  location = r.row.location;
  player = r.row.player;
  programmer = r.row.programmer;
  wizard = r.row.wizard;
  r = r.row.r;
  w = r.row.w;
  f = r.row.f;
  children = children_of w x;
  contents = contents_of w x;
}

-- what the object of a number looks like; `None` if no object has it
abbrev pub look_of : World → ObjNo → Option Look
look_of w x = option_map (look_at w x) (w.object x)
