-- A new object, at the level of the rows.
use Rattle.std.specs.{Prelude.{[]}, FinMap.{insert}}
use Rattle.moo_value.specs.declared.value.ObjNo.{ObjNo}
use Rattle.moo_rows.specs.{declared.row.ObjRow.{ObjRow}, Maps.{Held, wrote}, PlainRow.{plain_row}}

-- the row of a new object under a parent
abbrev pub new_row : ObjNo → ObjNo → ObjRow
new_row parent owner = plain_row [] owner parent

-- what is held once its row is put
abbrev pub with_new_row : ObjNo → ObjNo → ObjNo → Held → Held
with_new_row object parent owner held = wrote held (record (held.maps) {
  head = record (held.maps.head) { top = object.0 };
  objects = insert held.maps.objects object (new_row parent owner);
})
