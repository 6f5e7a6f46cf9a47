use Rattle.moo_memory.proofs.Words.{Option, pos, ◌-ℤ◌, nat_abs, get, ObjNo, contents, object_cmp, IsFirst, row_has, overlaid}
use Rattle.moo_memory.proofs.draft.DraftRows.next_linked.Given as goal

-- what is first past `last` is first past `after`
abbrev pub invariant-loop-key : goal.invariant-loop-key
invariant-loop-key g l =
    let d = l.self-inside in
    let passes = λ (q : ObjNo). row_has l.link (get (overlaid (g.R.Rows.held d.base.now).maps.objects (contents object_cmp d.objects)) q) in
    (r : Option ObjNo) → IsFirst object_cmp passes l.last r → IsFirst object_cmp passes l.fn.after r

-- the numbers past `last`
abbrev pub decreases-loop-key : goal.decreases-loop-key
decreases-loop-key g l = nat_abs (pos 2147483647 -ℤ l.last.0)
