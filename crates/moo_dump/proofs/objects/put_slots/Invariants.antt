use Rattle.moo_dump.proofs.Words.{◌≡◌, ◌++◌, length, world_of, slot_lines_over}
use Rattle.moo_dump.proofs.objects.put_slots.Given as goal
use Rattle.moo_world.specs.World.{chain}

-- what is written, and then the lines from here up, are the lines of the whole chain
abbrev pub invariant-loop-row : goal.invariant-loop-row
invariant-loop-row g l =
    let t = (g.R.Rows.held l.rows).maps in
    l.out.items ++ slot_lines_over t l.x (chain (world_of t) l.at) ≡ l.fn.out.items ++ slot_lines_over t l.x (chain (world_of t) l.x)

abbrev pub decreases-loop-row : goal.decreases-loop-row
decreases-loop-row g l = length (chain (world_of (g.R.Rows.held l.rows).maps) l.at)
