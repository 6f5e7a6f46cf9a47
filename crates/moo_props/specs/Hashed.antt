-- The properties that an object has, by the hashes of their names.
use Rattle.std.specs.{Prelude.{◌≡◌, ℕ, Bool, true, false, ◌&&◌, Some, ⊤, is_some, unwrap_or}, FinMap.{FinMap, get}, Option.{option_map}}
use Rattle.std.specs.{Ordering.{nat_cmp, ordering_then}, declared.cmp.Ordering.{Ordering}}
use Rattle.moo_value.specs.declared.value.ObjNo.{ObjNo}
use Rattle.moo_rows.specs.{declared.row.PropId.{PropId}, declared.row.PropRow.{PropRow}, Maps.{Maps, prop_cmp}, Named.{is_alike, name_hash}}
use Rattle.moo_world.specs.Objects.{Name}

-- by hash, and then by property
abbrev pub hashed_cmp : ℕ × PropId → ℕ × PropId → Ordering
hashed_cmp a b = ordering_then (nat_cmp a.0 b.0) (prop_cmp a.1 b.1)

-- each property of which the object has a slot is among those that are kept for the hash of its name
abbrev pub HoldsNames : Maps → ObjNo → FinMap hashed_cmp ⊤ → Type 0
HoldsNames maps object names =
    (id : PropId) (row : PropRow) → get maps.props id ≡ Some row → is_some (get maps.slots (object, id)) ≡ true →
    is_some (get names (name_hash row.name, id)) ≡ true

-- the object has a slot of the property, which has the name, ASCII case aside
abbrev pub has_under_name : Maps → ObjNo → Name → PropId → Bool
has_under_name maps object name id =
    unwrap_or (option_map (λ row. is_alike row.name name) (get maps.props id)) false && is_some (get maps.slots (object, id))
