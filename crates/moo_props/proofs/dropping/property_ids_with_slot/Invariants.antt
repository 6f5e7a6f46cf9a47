use Rattle.moo_props.proofs.Words.{◌≡◌, ◌++◌, slots_of_left, ids_among}
use Rattle.moo_props.proofs.dropping.property_ids_with_slot.Given as goal

-- those so far, and those of the slots that are left
abbrev pub invariant-loop-key : goal.invariant-loop-key
invariant-loop-key g l =
    let left = slots_of_left l.key-iterator.object l.key-iterator.last (g.R.Rows.held l.key-iterator.rows.now).maps in
    l.found.items ++ ids_among left ≡ ids_among (slots_of_left l.fn.x (record { 0 = 0 }) (g.R.Rows.held l.rows).maps)
