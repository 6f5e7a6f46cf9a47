-- Objects of which one look shows that their numbers and links are right.
use Rattle.std.specs.{Prelude.{◌≡◌, Bool, true, not, ◌&&◌, Some}, FinMap.{get}}
use Rattle.moo_value.specs.declared.value.ObjNo.{ObjNo}
use Rattle.moo_rows.specs.{declared.row.ObjRow.{ObjRow}, Maps.{Maps}}
use Rattle.moo_damage.specs.{declared.trees.TreeLink.TheVariants.{Parent, Location}, Damage.{is_object_past, goes_down}}

-- one look shows that the object is right: its number was given, and both links go down
abbrev pub is_plain_object : Maps → ObjNo → ObjRow → Bool
is_plain_object m x row = not (is_object_past m.head x) && (goes_down Parent m x row && goes_down Location m x row)

-- one look at each object shows that it is right
abbrev pub ArePlain : Maps → Type 0
ArePlain m = (x : ObjNo) (row : ObjRow) → get m.objects x ≡ Some row → is_plain_object m x row ≡ true
