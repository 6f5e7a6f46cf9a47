use Rattle.moo_store.proofs.Words.{take, get, PrintEach}
use Rattle.moo_store.proofs.printing.print_each.Given as goal

-- so far, the changes that are passed
abbrev pub invariant-loop-key : goal.invariant-loop-key
invariant-loop-key g l = PrintEach (λ key. g.V.Print.prints (get (g.V.KeyedRow.map_of l.rows.maps) key)) l.cells.items (take l.key-index l.key-items)
