use Rattle.moo_props.proofs.Words.{◌≡◌, ◌++◌, Some, pos, entries, object_cmp, entries_past, linked_among}
use Rattle.moo_props.proofs.dropping.linked_among.Given as goal
use Rattle.std.proofs.Common.{◌-ℤ◌, nat_abs}

-- those so far, and those among the objects past the last
abbrev pub invariant-loop-y : goal.invariant-loop-y
invariant-loop-y g l =
    let all = entries (g.R.Rows.held l.rows).maps.objects in
    l.found.items ++ linked_among l.x (entries_past object_cmp (Some l.last) all) ≡ linked_among l.x all

-- the numbers past the last
abbrev pub decreases-loop-y : goal.decreases-loop-y
decreases-loop-y g l = nat_abs (pos 2147483647 -ℤ l.last.0)
