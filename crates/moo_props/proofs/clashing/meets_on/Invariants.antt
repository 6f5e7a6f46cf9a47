use Rattle.moo_props.proofs.Words.{◌≡◌, is_some, list_any, defined_left, folded, world_of, slot_of, meets_on}
use Rattle.moo_props.proofs.clashing.meets_on.Given as goal

-- one of those that are left has such a name just where one of all does
abbrev pub invariant-loop-id : goal.invariant-loop-id
invariant-loop-id g l =
    let t = (g.R.Rows.held l.rows).maps in
    let left = defined_left l._id-iterator.definer l._id-iterator.last (g.R.Rows.held l._id-iterator.rows.now).maps in
    list_any (λ e. is_some (slot_of (world_of t) l.new (folded e.1.name))) left ≡ meets_on (world_of t) l.fn.new l.fn.y
