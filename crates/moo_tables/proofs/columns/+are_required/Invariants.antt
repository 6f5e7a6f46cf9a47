use Rattle.moo_tables_rows.proofs.Words.{length}
use Rattle.moo_tables.proofs.columns.+are_required.Given as goal

abbrev pub decreases-are_required : goal.decreases-are_required
decreases-are_required l = length l.columns.now
