use Rattle.moo_tables_rows.proofs.Words.{length}
use Rattle.moo_tables.proofs.ours.+are_our_tables.Given as goal

abbrev pub decreases-are_our_tables : goal.decreases-are_our_tables
decreases-are_our_tables l = length l.tables.now
