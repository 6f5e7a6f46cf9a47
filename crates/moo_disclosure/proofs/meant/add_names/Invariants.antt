use Rattle.std.proofs.Common.{◌≡◌, ◌++◌, ◌≤◌, map, length, take}
use Rattle.moo_rows.specs.Links.{defined_left}
use Rattle.moo_world.specs.Rows.{prop_id}
use Rattle.moo_disclosure.proofs.meant.add_names.Given as goal

-- the names so far and those of the properties that are left begin as all of them do, and there is room for the names so far
abbrev pub invariant-loop-id : goal.invariant-loop-id
invariant-loop-id g l =
    let left = defined_left l._id-iterator.definer l._id-iterator.last (g.R.Rows.held l._id-iterator.rows.now).maps in
    let all = defined_left l.fn.x (prop_id 0) (g.R.Rows.held l.rows).maps in
    record {
      begins : take 200 (l.names.items ++ map (λ e. e.1.name) left) ≡ take 200 (l.fn.names.items ++ map (λ e. e.1.name) all);
      room : length l.names.items ≤ 200;
    }
