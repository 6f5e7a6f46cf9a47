-- Clear slots of properties.
use Rattle.std.specs.{Prelude.{Bool, false, unwrap_or}, Option.{option_map}, FinMap.{get}}
use Rattle.moo_value.specs.declared.value.ObjNo.{ObjNo}
use Rattle.moo_rows.specs.{declared.row.PropId.{PropId}, Maps.{Maps}}
use Rattle.moo_world.specs.PropertyCalls.{is_clear}

-- the object has a clear slot of the property
abbrev pub has_clear : Maps → ObjNo → PropId → Bool
has_clear m x id = unwrap_or (option_map (λ s. is_clear s.state) (get m.slots (x, id))) false
