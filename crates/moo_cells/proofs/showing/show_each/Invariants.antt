use Rattle.std.proofs.Common.{drop, None}
use Rattle.moo_rows.specs.Walk.{rows_left}
use Rattle.moo_cells.proofs.Beside.{ShowRest}
use Rattle.moo_cells.proofs.showing.show_each.Given as goal

-- what is left of both
abbrev pub invariant-loop-row : goal.invariant-loop-row
invariant-loop-row g l =
    let rows = g.R.KeyedRow.map_of l.rows.maps in
    ShowRest (g.R.ReadRow.reads l.version) (drop l.row-index l.cells) l.cells (rows_left l.last rows) (rows_left None rows)
