-- The name of a property.
use Rattle.std.specs.{Prelude.{Bool, false, [], unwrap_or}, Option.{option_map}, FinMap.{get}}
use Rattle.moo_value.specs.declared.value.ObjNo.{ObjNo}
use Rattle.moo_rows.specs.{declared.row.PropId.{PropId}, Maps.{Maps}}
use Rattle.moo_world.specs.Objects.{Name, same_object, folded}

-- the folded name of a property
abbrev pub name_of : Maps → PropId → Name
name_of maps id = unwrap_or (option_map (λ row. folded row.name) (get maps.props id)) []

-- the name of a property, as it is spelled
abbrev pub spelling_of : Maps → PropId → Name
spelling_of maps id = unwrap_or (option_map (λ row. row.name) (get maps.props id)) []

-- the object defines the property
abbrev pub defines : Maps → ObjNo → PropId → Bool
defines maps object id = unwrap_or (option_map (λ row. same_object row.definer object) (get maps.props id)) false
