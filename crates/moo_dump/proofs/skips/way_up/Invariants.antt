use Rattle.moo_dump.proofs.Words.{length, AllByRecursion, world_of, LeadsUp}
use Rattle.moo_dump.proofs.skips.way_up.Given as goal
use Rattle.moo_world.specs.World.{chain}

-- each object of the way leads here
abbrev pub invariant-loop-row : goal.invariant-loop-row
invariant-loop-row g l = AllByRecursion (λ y. LeadsUp (g.R.Rows.held l.rows).maps y l.at) l.way.items

abbrev pub decreases-loop-row : goal.decreases-loop-row
decreases-loop-row g l = length (chain (world_of (g.R.Rows.held l.rows).maps) l.at)
