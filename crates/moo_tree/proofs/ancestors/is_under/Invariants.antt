use Rattle.moo_tree.proofs.Words.{◌≡◌, length, is_among, world_of, chain}
use Rattle.moo_tree.proofs.ancestors.is_under.Given as goal

-- the ancestor stands in the chain from here just where it stands in that of x
abbrev pub invariant-loop-row : goal.invariant-loop-row
invariant-loop-row g l = let w = world_of (g.R.Rows.held l.rows).maps in is_among l.ancestor (chain w l.at) ≡ is_among l.ancestor (chain w l.fn.x)

abbrev pub decreases-loop-row : goal.decreases-loop-row
decreases-loop-row g l = length (chain (world_of (g.R.Rows.held l.rows).maps) l.at)
