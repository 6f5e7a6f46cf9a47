use Rattle.moo_tables_rows.proofs.VerbLemmas.{removed}
use Rattle.moo_tables_rows.proofs.verb.VerbCellsTableRow.remove.Goals as goal

pub returns-clause-gone : goal.returns-clause-gone
returns-clause-gone g c = (removed _ _ _ _ _ c.verb_key.ensures c.run.ensures.ran c.run.ensures.executes).0

pub returns-clause-cause : goal.returns-clause-cause
returns-clause-cause g c = (removed _ _ _ _ _ c.verb_key.ensures c.run.ensures.ran c.run.ensures.executes).1
