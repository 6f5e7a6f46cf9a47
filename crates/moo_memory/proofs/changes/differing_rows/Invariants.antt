use Rattle.std.proofs.Common.{◌≡◌}
use Rattle.moo_memory.{proofs.Words.{get}, proofs.Changing.{LeavesSoFar}}
use Rattle.moo_memory.proofs.changes.differing_rows.Given as goal

-- the rows that differ from the base, as far as the loop has come
abbrev pub invariant-loop-key : goal.invariant-loop-key
invariant-loop-key g l = LeavesSoFar (λ e. get (g.V.KeyedRow.map_of (g.R.Rows.held l.base).maps) e.0 ≡ e.1) l.fn.changes.entries l.changed.items l.key-iterator
