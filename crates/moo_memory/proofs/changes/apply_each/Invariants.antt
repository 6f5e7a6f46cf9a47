use Rattle.moo_memory.proofs.Words.{◌≡◌, length, into_iter_items, into_iter_len, changed_each}
use Rattle.moo_memory.proofs.changes.apply_each.Given as goal

-- with the changes that are left, it is as with all
abbrev pub invariant-loop-key : goal.invariant-loop-key
invariant-loop-key g l =
    let now = (g.R.Rows.held l.rows).maps in
    let before = (g.R.Rows.held l.fn.rows).maps in
    (g.V.KeyedRow.with_map now (changed_each (g.V.KeyedRow.map_of now) (into_iter_items l.key-iterator)) ≡ g.V.KeyedRow.with_map before (changed_each (g.V.KeyedRow.map_of before) l.fn.changes))
    × (into_iter_len l.key-iterator ≡ length (into_iter_items l.key-iterator))
