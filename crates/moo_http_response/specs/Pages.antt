-- Pages of the list of all objects.
use Rattle.std.specs.{Prelude.{pos, ◌-ℤ◌, List, [], ◌∷◌, Option, Some, None, take, drop}, Int.{int_max}, List.{filter, filter_map}}
use Rattle.std.specs.Option.{option_map}
use Rattle.moo_value.specs.declared.value.ObjNo.{ObjNo}
use Rattle.moo_rows.specs.{Maps.{object_cmp}, Walk.{is_past}}
use Rattle.moo_world.specs.{ObjectLists.{objects_of}, World.{World}}
use Rattle.moo_http_response.specs.{declared.entry.Entry.{Entry}, declared.page.Page.{Page}}

-- the fields of an object's record; None if x isn't an object
abbrev pub entry_of : World → ObjNo → Option Entry
entry_of w x = option_map (λ r. record {
  number = x;
  name = r.row.name;
  owner = r.row.owner;
  parent = r.row.parent;
  location = r.row.location;
  player = r.row.player;
  programmer = r.row.programmer;
  wizard = r.row.wizard;
  r = r.row.r;
  w = r.row.w;
  f = r.row.f;
}) (w.object x)

-- the number before the first one of a page; a page from a number below zero on is that from zero on
abbrev pub before_page : ObjNo → ObjNo
before_page n = record { 0 = int_max n.0 (pos 0) -ℤ pos 1 }

-- the objects past a number, ascending
abbrev pub objects_past : World → ObjNo → List ObjNo
objects_past w last = filter (λ x. is_past object_cmp (Some last) x) (objects_of w)

-- the first of the objects, if there is one
abbrev pub first_of : List ObjNo → Option ObjNo
first_of [] = None
first_of (x ∷ xs) = Some x

-- the objects from a number on, at most 1,000 of them, and the first that is left out
abbrev pub page_of : World → ObjNo → Page
page_of w n = record {
  objects = filter_map (entry_of w) (take 1000 (objects_past w (before_page n)));
  next = first_of (drop 1000 (objects_past w (before_page n)));
}
