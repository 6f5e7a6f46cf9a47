use Rattle.moo_props.proofs.Words.{◌≡◌, ◌++◌, entries, filter, slots_of_left, ids_among, defined_only, is_defined_only, is_key}
use Rattle.moo_props.proofs.reparenting.props_among.Given as goal

-- those so far, and those of the slots that are left
abbrev pub invariant-loop-key : goal.invariant-loop-key
invariant-loop-key g l =
    let t = (g.R.Rows.held l.rows).maps in
    let left = slots_of_left l.key-iterator.object l.key-iterator.last (g.R.Rows.held l.key-iterator.rows.now).maps in
    l.found.items ++ ids_among (filter (λ e. is_defined_only (is_key l.these) (is_key l.others) t e.0.1) left) ≡ defined_only (is_key l.these) (is_key l.others) (entries t.props)
