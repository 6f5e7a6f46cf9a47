use Rattle.moo_dump.proofs.Words.{SkipUp}
use Rattle.moo_dump.proofs.skips.all_skips.Given as goal

abbrev pub invariant-loop-row : goal.invariant-loop-row
invariant-loop-row g l = SkipUp (g.R.Rows.held l.rows).maps l.skips
