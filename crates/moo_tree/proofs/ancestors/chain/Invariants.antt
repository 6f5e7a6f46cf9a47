use Rattle.moo_tree.proofs.Words.{◌≡◌, ◌++◌, length, world_of, chain}
use Rattle.moo_tree.proofs.ancestors.chain.Given as goal

-- what was found, and then the chain from here, is the chain of x
abbrev pub invariant-loop-row : goal.invariant-loop-row
invariant-loop-row g l = let w = world_of (g.R.Rows.held l.rows).maps in l.found.items ++ chain w l.at ≡ chain w l.fn.x

abbrev pub decreases-loop-row : goal.decreases-loop-row
decreases-loop-row g l = length (chain (world_of (g.R.Rows.held l.rows).maps) l.at)
