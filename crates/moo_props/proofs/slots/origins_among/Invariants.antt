use Rattle.moo_props.proofs.Words.{◌≡◌, ◌++◌, slots_of_left, origins_among}
use Rattle.moo_props.proofs.slots.origins_among.Given as goal

-- those so far, and those of the slots that are left
abbrev pub invariant-loop-key : goal.invariant-loop-key
invariant-loop-key g l =
    let left = slots_of_left l.key-iterator.object l.key-iterator.last (g.R.Rows.held l.key-iterator.rows.now).maps in
    l.found.items ++ origins_among left ≡ origins_among (slots_of_left l.fn.q (record { 0 = 0 }) (g.R.Rows.held l.rows).maps)
