use Rattle.moo_damage.{proofs.Words.{arith, None, Some, ObjNo, ObjRow, object_exact, object_total, Misses}, proofs.Firsts.{ended, stopped}}
use Rattle.moo_damage.proofs.checks.first_missing.Goals as goal

pub returns-in-Some-first_missing_of : goal.returns-in-Some-first_missing_of
returns-in-Some-first_missing_of g c =
    let m = (g.R.Rows.held c.args.rows.now).maps in
    let id = c.in-Some-first_missing_of.id in
    let right : ObjNo → ObjRow → Type 0 = λ x _. Misses m x None in
    let bad : ObjNo → ObjRow → Type 0 = λ x _. Misses m x (Some id) in
    stopped right bad object_total object_exact m.objects _ _ (c.in-Some.key, c.in-Some._row.now) c.in-Some.ensures.steps (c.loop-key.invariant id) c.in-Some-first_missing_of.ensures

pub returns : goal.returns
returns g c =
    let m = (g.R.Rows.held c.args.rows.now).maps in
    let right : ObjNo → ObjRow → Type 0 = λ x _. Misses m x None in
    let bad : ObjNo → ObjRow → Type 0 = λ x _. Misses m x (Some (record { 0 = 0 })) in
    ended right bad object_total object_exact m.objects _ c.in-None.ensures.steps.0 (c.loop-key.invariant (record { 0 = 0 }))
