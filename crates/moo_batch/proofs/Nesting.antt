-- A value of a list nests no deeper than the list's values do.
use Rattle.std.proofs.Common.{◌≡◌, ap, ℕ, zero, suc, ◌<◌, ◌≤◌, List, [], ◌∷◌, length, arith}
use Rattle.std.specs.Prelude.{get_or}
use Rattle.moo_value.{specs.Value.{gather, nesting, prepend}, specs.Values.{Values, levels}, specs.declared.value.Value.{Value}, specs.declared.value.Value.TheVariants.{Int, Obj, Str, Error, List as a_list}}

front : (v : Value) (rest : Values) → (nesting v ≤ levels (prepend v rest)) × (levels rest ≤ levels (prepend v rest))
front (Int n) rest = (omega arith, omega arith)
front (Obj n) rest = (omega arith, omega arith)
front (Str n) rest = (omega arith, omega arith)
front (Error n) rest = (omega arith, omega arith)
front (a_list n) rest = (omega arith, omega arith)

pub nesting_le : (vs : List Value) (i : ℕ) (v : Value) → v ≡ get_or vs i v → i < length vs → nesting v ≤ levels (gather vs)
nesting_le [] i v is h = absurd (omega arith)
nesting_le (u ∷ vs) zero v is h = omega (arith, ap nesting is, (front u (gather vs)).0)
nesting_le (u ∷ vs) (suc i) v is h = omega (arith, nesting_le vs i v is (omega arith), (front u (gather vs)).1)
