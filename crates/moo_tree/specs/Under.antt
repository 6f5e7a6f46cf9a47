-- The objects under an object, itself among them, with their owners.
use Rattle.std.specs.{Prelude.{◌≡◌, List, map, Option, None, if◌then◌else◌}, Option.{option_map}, List.{filter}}
use Rattle.std.specs.FinMap.{FinMap, get, entries}
use Rattle.moo_value.specs.declared.value.ObjNo.{ObjNo}
use Rattle.moo_rows.specs.{declared.row.ObjRow.{ObjRow}, Maps.{Maps, object_cmp}}
use Rattle.moo_world.specs.{Objects.{is_among}, Rows.{world_of}, World.{World, chain}}

-- the objects of these entries that are x or under x in w, with their owners
abbrev pub under_among : World → ObjNo → List (ObjNo × ObjRow) → List (ObjNo × ObjNo)
under_among w x es = map (λ e. (e.0, e.1.owner)) (filter (λ e. is_among x (chain w e.0)) es)

-- x and the objects under x with their owners, ascending
abbrev pub owners_under : Maps → ObjNo → List (ObjNo × ObjNo)
owners_under t x = under_among (world_of t) x (entries t.objects)

-- the owner of an object, if it is x or under x
abbrev pub owner_if_under : Maps → ObjNo → ObjNo → Option ObjNo
owner_if_under t x q = if is_among x (chain (world_of t) q) then option_map (λ r. r.owner) (get t.objects q) else None

-- the map holds x and the objects under x, each with its owner, and nothing else
abbrev pub IsOwnerMap : Maps → ObjNo → FinMap object_cmp ObjNo → Type 0
IsOwnerMap t x found = (q : ObjNo) → get found q ≡ owner_if_under t x q
