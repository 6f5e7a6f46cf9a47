use Rattle.moo_props.proofs.Words.{◌≡◌, ◌++◌, map, defined_left, ◌∷◌, [], props_of}
use Rattle.moo_props.proofs.dropping.properties_defined_by.Given as goal

-- those so far, and those that are left
abbrev pub invariant-loop-id : goal.invariant-loop-id
invariant-loop-id g l =
    let t = (g.R.Rows.held l.rows).maps in
    let left = defined_left l.id-iterator.definer l.id-iterator.last (g.R.Rows.held l.id-iterator.rows.now).maps in
    l.found.items ++ map (λ e. e.0) left ≡ props_of (l.fn.x ∷ []) t.props
