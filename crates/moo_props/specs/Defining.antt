-- A new property, at the level of the rows.
use Rattle.std.specs.{Prelude.{◌+◌}, FinMap.{insert}}
use Rattle.moo_value.specs.declared.value.ObjNo.{ObjNo}
use Rattle.moo_rows.specs.Maps.{Held, wrote}
use Rattle.moo_world.specs.{Objects.{Name}, Rows.{prop_id}}

-- what is held once the object defines a property of the next number
abbrev pub with_definition : ObjNo → Name → Held → Held
with_definition object name held =
    wrote held (record (held.maps) {
      head = record (held.maps.head) { next_prop = held.maps.head.next_prop + 1 };
      props = insert held.maps.props (prop_id held.maps.head.next_prop) (record { definer = object; name = name });
    })
