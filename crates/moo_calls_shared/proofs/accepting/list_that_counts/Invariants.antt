use Rattle.std.proofs.Common.{◌≡◌, length}
use Rattle.moo_world.{specs.World.{chain}, specs.Rights.{accept_along}}
use Rattle.moo_calls_shared.specs.Outcomes.{world_in}
use Rattle.moo_calls_shared.proofs.accepting.list_that_counts.Given as goal

-- the list that counts from here is the one that counts at all
abbrev pub invariant-loop-row : goal.invariant-loop-row
invariant-loop-row g l = let w = world_in (g.R.Rows.held l.rows) in accept_along w (chain w l.at) ≡ accept_along w (chain w l.fn.to)

abbrev pub decreases-loop-row : goal.decreases-loop-row
decreases-loop-row g l = length (chain (world_in (g.R.Rows.held l.rows)) l.at)
