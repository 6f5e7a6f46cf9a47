-- Numbers of objects that compare alike are one.
use Rattle.std.{specs.Ordering.{int_cmp}, proofs.lemmas.Map.Lookups.{CmpEqualImpliesEq, exact_signed}}
use Rattle.moo_value.specs.declared.value.ObjNo.{ObjNo}

pub object_one : CmpEqualImpliesEq (λ (a b : ObjNo). int_cmp a.0 b.0)
object_one a b h = let e = exact_signed a.0 b.0 h in λ i. record { 0 = e i }
