-- The first slot that is owed and isn't there.
use Rattle.std.specs.Prelude.{Option, None, Some}
use Rattle.moo_value.specs.declared.value.ObjNo.{ObjNo}
use Rattle.moo_rows.specs.{declared.row.PropId.{PropId}, Maps.{Maps}}
use Rattle.moo_damage.specs.{First.{IsLeastBad, IsLeastPassing}, Damage.{is_missing}}

-- the first property whose slot x misses, or none
abbrev pub Misses : Maps → ObjNo → Option PropId → Type 0
Misses m x o = IsLeastPassing m.props (λ id _. is_missing m (x, id)) o

-- the least object that misses a slot, with the least property of which it does; `None` if no slot is missing
abbrev pub IsFirstMissing : Maps → Option (ObjNo × PropId) → Type 0
IsFirstMissing m None = IsLeastBad m.objects (λ x _. Misses m x None) (λ x _. ⊥) None
IsFirstMissing m (Some key) = IsLeastBad m.objects (λ x _. Misses m x None) (λ x _. Misses m x (Some key.1)) (Some key.0)
