use Rattle.moo_cells.proofs.Words.{◌≡◌, ◌++◌, get, length, into_iter_items, into_iter_len}
use Rattle.moo_cells.proofs.read_row.read_table.Given as goal

abbrev pub invariant-loop-row : goal.invariant-loop-row
invariant-loop-row g l = record {
  whole : l.yielded ++ into_iter_items l.row-iterator ≡ l.fn.cells.items;
  left : into_iter_len l.row-iterator ≡ length (into_iter_items l.row-iterator);
  holds : g.R.ReadRow.holds l.fn.version l.yielded (get (g.R.KeyedRow.map_of l.rows.maps));
  kept : l.rows.maps ≡ g.R.KeyedRow.with_map l.initial.rows.maps (g.R.KeyedRow.map_of l.rows.maps);
}
