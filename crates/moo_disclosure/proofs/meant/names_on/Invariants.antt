use Rattle.std.{proofs.Common.{◌≡◌, ◌++◌, ◌≤◌, length, take, drop}, specs.List.{flat_map}}
use Rattle.moo_world.specs.Rows.{world_of}
use Rattle.moo_disclosure.specs.Disclosed.{names_listed}
use Rattle.moo_disclosure.proofs.meant.names_on.Given as goal

-- the names so far and those of the objects that are left begin as all of them do, and there are at most so many so far
abbrev pub invariant-loop-object : goal.invariant-loop-object
invariant-loop-object g l =
    let names = flat_map (names_listed (world_of (g.R.Rows.held l.rows).maps) l.programmer) in
    record {
      begins : take 200 (l.names.items ++ names (drop l.object-index l.objects)) ≡ take 200 (names l.objects);
      room : length l.names.items ≤ 200;
    }
