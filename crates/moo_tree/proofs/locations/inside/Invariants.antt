use Rattle.moo_tree.proofs.Words.{◌≡◌, length, is_among, world_of, location_chain}
use Rattle.moo_tree.proofs.locations.inside.Given as goal

-- y stands among the locations from here just where it stands among those of x
abbrev pub invariant-loop-row : goal.invariant-loop-row
invariant-loop-row g l = let w = world_of (g.R.Rows.held l.rows).maps in is_among l.y (location_chain w l.at) ≡ is_among l.y (location_chain w l.fn.x)

abbrev pub decreases-loop-row : goal.decreases-loop-row
decreases-loop-row g l = length (location_chain (world_of (g.R.Rows.held l.rows).maps) l.at)
