-- Another name for a property, at the level of the rows.
use Rattle.std.specs.FinMap.{insert}
use Rattle.moo_value.specs.declared.value.ObjNo.{ObjNo}
use Rattle.moo_rows.specs.{declared.row.PropId.{PropId}, Maps.{Held, wrote}}
use Rattle.moo_world.specs.Objects.{Name}

-- what is held once a property that the object defines has the name
abbrev pub with_name : ObjNo → PropId → Name → Held → Held
with_name object id name held =
    wrote held (record (held.maps) { props = insert held.maps.props id (record { definer = object; name = name }) })
