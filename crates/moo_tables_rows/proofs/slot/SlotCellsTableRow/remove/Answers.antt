use Rattle.moo_tables_rows.proofs.SlotLemmas.{removed}
use Rattle.moo_tables_rows.proofs.slot.SlotCellsTableRow.remove.Goals as goal

pub returns-clause-gone : goal.returns-clause-gone
returns-clause-gone g c = (removed _ _ _ _ _ c.slot_key.ensures c.run.ensures.ran c.run.ensures.executes).0

pub returns-clause-cause : goal.returns-clause-cause
returns-clause-cause g c = (removed _ _ _ _ _ c.slot_key.ensures c.run.ensures.ran c.run.ensures.executes).1
