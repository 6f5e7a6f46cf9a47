use Rattle.moo_tree.proofs.Words.{◌≡◌, drop, length, world_of, chain}
use Rattle.moo_tree.proofs.surface.up_along.Given as goal

-- what is still to be climbed from here is what was to be climbed from x
abbrev pub invariant-loop-step : goal.invariant-loop-step
invariant-loop-step g l =
    let w = world_of (g.R.Rows.held l.rows).maps in
    drop (length (chain w l.left)) (chain w l.at) ≡ drop (length (chain w l.fn.other)) (chain w l.fn.x)

abbrev pub decreases-loop-step : goal.decreases-loop-step
decreases-loop-step g l = length (chain (world_of (g.R.Rows.held l.rows).maps) l.left)
