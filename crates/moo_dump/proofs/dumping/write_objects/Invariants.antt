use Rattle.moo_dump.{proofs.Words.{flat_map, objects_left, world_of, object_lines, objects_text}, proofs.Writing.{HasWritten}}
use Rattle.moo_dump.proofs.dumping.write_objects.Given as goal

-- the lines of the objects that are left are what is not written yet
abbrev pub invariant-loop-x : goal.invariant-loop-x
invariant-loop-x g l =
    let t = (g.R.Rows.held l.rows).maps in
    let left = objects_left l.x-iterator.last (g.R.Rows.held l.x-iterator.rows.now).maps in
    HasWritten (g.W.Write.contents l.fn.output) (g.W.Write.contents l.output) (flat_map (λ e. object_lines (world_of t) e.0) left) (objects_text t)
