use Rattle.moo_rows.proofs.Words.{◌≡◌, ◌++◌, map, pos, linked_left}
use Rattle.moo_rows.proofs.rows.Rows.list_linked.Given as goal
use Rattle.std.proofs.Common.{◌-ℤ◌, nat_abs}

-- those so far, and those past the last
abbrev pub invariant-loop-y : goal.invariant-loop-y
invariant-loop-y g l =
    let t = (g.Self.Rows.held l.self).maps in
    l.list.items ++ map (λ e. e.0) (linked_left l.link l.last t) ≡ l.fn.list.items ++ map (λ e. e.0) (linked_left l.link l.fn.after t)

-- the numbers past the last
abbrev pub decreases-loop-y : goal.decreases-loop-y
decreases-loop-y g l = nat_abs (pos 2147483647 -ℤ l.last.0)
