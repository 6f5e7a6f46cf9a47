use Rattle.moo_memory.proofs.Words.{Option, get, length, entries, contents, IsNextAt, row_over}
use Rattle.moo_memory.proofs.overlay.next.Given as goal
use Rattle.moo_rows.specs.Walk.{entries_past}

-- what is next past `last` is next past `from`
abbrev pub invariant-loop-key : goal.invariant-loop-key
invariant-loop-key g l =
    let cmp = g.V.Key.Ord.cmp in let row_at = row_over (get (g.V.KeyedRow.map_of (g.R.Rows.held l.base).maps)) (contents cmp l.changes) in
    (r : Option g.row.V-Key.Denot) → IsNextAt cmp row_at l.last r → IsNextAt cmp row_at l.fn.from r

-- the changes past `last`
abbrev pub decreases-loop-key : goal.decreases-loop-key
decreases-loop-key g l = length (entries_past g.V.Key.Ord.cmp l.last (entries (contents g.V.Key.Ord.cmp l.changes)))
