use Rattle.std.proofs.Common.{map}
use Rattle.moo_rows.specs.Links.{linked_left}
use Rattle.moo_memory.proofs.Words.{◌≡◌, ◌++◌, pos, ◌-ℤ◌, nat_abs}
use Rattle.moo_memory.proofs.flat.FlatRows.list_linked.Given as goal

-- those so far, and those past the last
abbrev pub invariant-loop-y : goal.invariant-loop-y
invariant-loop-y l =
    let t = l.self.maps in
    l.list.items ++ map (λ e. e.0) (linked_left l.link l.last t) ≡ l.fn.list.items ++ map (λ e. e.0) (linked_left l.link l.fn.after t)

-- the numbers past the last
abbrev pub decreases-loop-y : goal.decreases-loop-y
decreases-loop-y l = nat_abs (pos 2147483647 -ℤ l.last.0)
