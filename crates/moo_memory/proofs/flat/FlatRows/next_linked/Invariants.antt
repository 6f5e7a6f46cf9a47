use Rattle.moo_memory.proofs.Words.{Option, pos, ◌-ℤ◌, nat_abs, get, ObjNo, contents, object_cmp, IsFirst, row_has}
use Rattle.moo_memory.proofs.flat.FlatRows.next_linked.Given as goal

-- what is first past `last` is first past `after`
abbrev pub invariant-loop-key : goal.invariant-loop-key
invariant-loop-key l =
    let passes = λ (q : ObjNo). row_has l.link (get (contents object_cmp l.self-inside.objects) q) in
    (r : Option ObjNo) → IsFirst object_cmp passes l.last r → IsFirst object_cmp passes l.fn.after r

-- the numbers past `last`
abbrev pub decreases-loop-key : goal.decreases-loop-key
decreases-loop-key l = nat_abs (pos 2147483647 -ℤ l.last.0)
