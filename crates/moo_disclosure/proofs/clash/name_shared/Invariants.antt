use Rattle.std.{proofs.Common.{◌≡◌, ◌≤◌, map, take}, specs.Prelude.{is_some}, specs.List.{find}}
use Rattle.moo_rows.specs.Links.{defined_left}
use Rattle.moo_world.specs.{Objects.{folded}, Rows.{prop_id, world_of}, World.{slot_of}}
use Rattle.moo_disclosure.proofs.clash.name_shared.Given as goal

-- the first name that the new parent has is among those that are left, as far as there is room for them
abbrev pub invariant-loop-id : goal.invariant-loop-id
invariant-loop-id g l =
    let w = world_of (g.R.Rows.held l.rows).maps in
    let left = defined_left l._id-iterator.definer l._id-iterator.last (g.R.Rows.held l._id-iterator.rows.now).maps in
    let all = defined_left l.fn.definer (prop_id 0) (g.R.Rows.held l.rows).maps in
    let found = find (λ name. is_some (slot_of w l.new (folded name))) in
    record {
      first : found (take l.room (map (λ e. e.1.name) left)) ≡ found (take 200 (map (λ e. e.1.name) all));
      room : l.room ≤ 200;
    }
