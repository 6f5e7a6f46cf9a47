-- Rows of objects: two that compare equal are one, and so is a clone.
use Rattle.std.{specs.Prelude.{◌≡◌}, proofs.Common.{rules}}
use Rattle.moo_value.specs.Equal.{IsExact}
use Rattle.moo_rows.specs.{Equal.{list_eq-exact}, SameRows.{field_tests, option-exact}, declared.row.ObjRow.{ObjRow}}
use Rattle.moo_rows.specs.contracts.row.ObjRowPartialEq.TheImpl as equal
use Rattle.moo_rows.specs.contracts.row.ObjRowClone.TheImpl as copied

-- rows that compare equal are one
pub object_row-exact : IsExact equal.ghosts.eq
object_row-exact x y = simp (field_tests, option-exact list_eq-exact) (λ h. search rules, λ e. search rules)

-- the clone of a row is the row
pub object_clone : (x y : ObjRow) → copied.ghosts.is_clone x y → y ≡ x
object_clone x y h = h
