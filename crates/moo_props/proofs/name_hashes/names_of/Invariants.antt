use Rattle.moo_props.{proofs.Words.{◌≡◌, true, Some, ◌||◌, is_some, list_any, get, PropId, PropRow, contents, slots_of_left, hashed_cmp}, proofs.Folding.{is_id}}
use Rattle.moo_rows.specs.Named.{name_hash}
use Rattle.moo_props.proofs.name_hashes.names_of.Given as goal

-- each property of which x has a slot is kept, or is left
abbrev pub invariant-loop-key : goal.invariant-loop-key
invariant-loop-key g l =
    let t = (g.R.Rows.held l.rows).maps in
    let left = slots_of_left l.key-iterator.object l.key-iterator.last (g.R.Rows.held l.key-iterator.rows.now).maps in
    (id : PropId) (row : PropRow) → get t.props id ≡ Some row → is_some (get t.slots (l.fn.x, id)) ≡ true
    → (is_some (get (contents hashed_cmp l.names) (name_hash row.name, id)) || list_any (λ e. is_id id e.0.1) left) ≡ true
