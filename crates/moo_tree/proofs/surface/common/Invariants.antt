use Rattle.moo_tree.proofs.Words.{◌≡◌, ◌-◌, drop, length, find, ancestors, is_among, world_of, chain}
use Rattle.moo_tree.proofs.surface.common.Given as goal

-- the two stand as deep, one of them among the ancestors of x, and what is found from the other is what is found from new
abbrev pub invariant-loop-row : goal.invariant-loop-row
invariant-loop-row g l =
    let w = world_of (g.R.Rows.held l.rows).maps in
    let above = ancestors w l.fn.x in
    record {
      deep : length (chain w l.one) ≡ length (chain w l.other);
      within : drop (length above - length (chain w l.one)) above ≡ chain w l.one;
      found : find (λ d. is_among d above) (chain w l.other) ≡ find (λ d. is_among d above) (chain w l.fn.new);
    }

abbrev pub decreases-loop-row : goal.decreases-loop-row
decreases-loop-row g l = length (chain (world_of (g.R.Rows.held l.rows).maps) l.other)
