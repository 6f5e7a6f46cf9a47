use Rattle.moo_dump.{proofs.Words.{◌≤◌, length, take, flat_map, objects_left, world_of, object_lines, objects_text}, proofs.Compared.{IsComparedTo}}
use Rattle.moo_dump.proofs.comparing.after_objects.Given as goal

-- the lines of the objects that are left are what is not compared yet
abbrev pub invariant-loop-x : goal.invariant-loop-x
invariant-loop-x g l =
    let t = (g.R.Rows.held l.rows).maps in
    let left = objects_left l.x-iterator.last (g.R.Rows.held l.x-iterator.rows.now).maps in
    record {
      within : l.at ≤ length l.text;
      compared : IsComparedTo (take l.start l.text) (objects_text t) (take l.at l.text) (flat_map (λ e. object_lines (world_of t) e.0) left);
    }
