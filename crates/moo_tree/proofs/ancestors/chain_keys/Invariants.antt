use Rattle.moo_tree.proofs.Words.{◌≡◌, ◌||◌, length, is_some, get, ObjNo, object_cmp, contents, is_among, world_of, chain}
use Rattle.moo_tree.proofs.ancestors.chain_keys.Given as goal

-- who is found, or in the chain from here, is in the chain of x, and nobody else
abbrev pub invariant-loop-row : goal.invariant-loop-row
invariant-loop-row g l =
    let w = world_of (g.R.Rows.held l.rows).maps in
    (y : ObjNo) → (is_some (get (contents object_cmp l.keys) y) || is_among y (chain w l.at)) ≡ is_among y (chain w l.fn.x)

abbrev pub decreases-loop-row : goal.decreases-loop-row
decreases-loop-row g l = length (chain (world_of (g.R.Rows.held l.rows).maps) l.at)
