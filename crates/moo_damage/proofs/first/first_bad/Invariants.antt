use Rattle.moo_damage.{proofs.Words.{true, false, length, entries}, specs.First.{MaySay}, proofs.Firsts.{FirstLeft}}
use Rattle.moo_rows.specs.Walk.{rows_left}
use Rattle.moo_damage.proofs.first.first_bad.Given as goal

-- the first of those that are left is the first of all
abbrev pub invariant-loop-next : goal.invariant-loop-next
invariant-loop-next g l =
    let rows = g.T.KeyedRow.map_of (g.R.Rows.held l.rows).maps in
    FirstLeft (MaySay g.F.Fn l.is_bad false) (MaySay g.F.Fn l.is_bad true) (rows_left l.last rows) (entries rows)

abbrev pub decreases-loop-next : goal.decreases-loop-next
decreases-loop-next g l = length (rows_left l.last (g.T.KeyedRow.map_of (g.R.Rows.held l.rows).maps))
