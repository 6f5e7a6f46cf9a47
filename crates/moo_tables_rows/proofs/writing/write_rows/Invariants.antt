use Rattle.moo_tables_rows.proofs.Words.{◌≡◌, take, StaysInside, Changes, with_each}
use Rattle.moo_tables_rows.proofs.writing.write_rows.Given as goal

abbrev pub invariant-loop-change : goal.invariant-loop-change
invariant-loop-change g l =
    let old = g.T.Run.state l.fn.tx in
    let now = g.T.Run.state l.tx in
    (g.T.Run.lender l.tx ≡ g.T.Run.lender l.fn.tx) × StaysInside old now × Changes (with_each g.R.TableRow.with_row (take l.change-index l.changes)) old now
