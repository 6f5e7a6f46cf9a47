use Rattle.moo_props.proofs.Words.{◌≡◌, ◌++◌, map, verbs_of_left, entries, verbs_among}
use Rattle.moo_props.proofs.dropping.verbs_among.Given as goal

-- those so far, and those that are left
abbrev pub invariant-loop-key : goal.invariant-loop-key
invariant-loop-key g l =
    let t = (g.R.Rows.held l.rows).maps in
    let left = verbs_of_left l.key-iterator.object l.key-iterator.last (g.R.Rows.held l.key-iterator.rows.now).maps in
    l.found.items ++ map (λ e. e.0) left ≡ verbs_among l.fn.x (entries t.verbs)
