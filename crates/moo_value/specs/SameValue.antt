-- Values that compare equal are one.
use Rattle.std.{specs.Prelude.{◌≡◌, ℕ}, specs.Bool.{Decides}, specs.Ordering.{int_eq}, proofs.Common.{ap, rules}}
use Rattle.std.{proofs.lemmas.Slice.Eq.{bytes_eq-Decides}, proofs.lemmas.Bool.{false≢true}}
use Rattle.std.proofs.lemmas.Bool.Decides.{Decides-int_eq, Decides-eqb}
use denote.Enum.Bare.{same_true, true_same, sameb}
use Rattle.moo_value.specs.{Equal.{IsExact, same_by-exact}, Values.{coded_values}, declared.value.ObjNo.{ObjNo}}
use Rattle.moo_value.specs.{declared.value.Value.{Value}, declared.code.Code.{Code}}
use Rattle.moo_value.specs.declared.value.Value.TheVariants.{Int, Obj, Str, Error, List as a_list}
use Rattle.moo_value.specs.contracts.code.Code as code
use Rattle.moo_value.specs.contracts.value.ValuePartialEq.TheImpl as value

pub object_no-exact : IsExact (λ (a b : ObjNo). int_eq a.0 b.0)
object_no-exact a b =
    let h = Decides-int_eq a.0 b.0 in (λ t. let e = h.0 t in λ i. record { 0 = e i }, λ e. h.1 (ap (λ (x : ObjNo). x.0) e))

code-exact : (x y : Code) → Decides (sameb code.the_type x y) (x ≡ y)
code-exact x y = (same_true code.the_type (search rules) x y, true_same code.the_type x y)

-- a number for each kind of value
abbrev kind : Value → ℕ
kind (Int _) = 0
kind (Obj _) = 1
kind (Str _) = 2
kind (Error _) = 3
kind (a_list _) = 4

pub value-exact : IsExact value.ghosts.eq
value-exact (Int a) (Int b) = let h = Decides-int_eq a b in (λ t. let e = h.0 t in λ i. Int (e i), λ e. h.1 cc)
value-exact (Obj a) (Obj b) = let h = object_no-exact a b in (λ t. let e = h.0 t in λ i. Obj (e i), λ e. h.1 cc)
value-exact (Str a) (Str b) = let h = bytes_eq-Decides a b in (λ t. let e = h.0 t in λ i. Str (e i), λ e. h.1 cc)
value-exact (Error a) (Error b) = let h = code-exact a b in (λ t. let e = h.0 t in λ i. Error (e i), λ e. h.1 cc)
value-exact (a_list a) (a_list b) = let h = same_by-exact coded_values a b in (λ t. let e = h.0 t in λ i. a_list (e i), λ e. h.1 cc)
-- (not by `cc`, which takes half a second for each of the twenty pairs of kinds)
value-exact x y = (λ t. absurd (false≢true t), λ e. absurd (false≢true ((Decides-eqb (kind x) (kind y)).1 (ap kind e))))
