use Rattle.moo_tables_rows.proofs.PropLemmas.{wrote}
use Rattle.moo_tables_rows.proofs.prop.PropCellsTableRow.write.Goals as goal

pub returns-clause-wrote : goal.returns-clause-wrote
returns-clause-wrote g c = wrote _ _ _ c.args.self.now c.args.text.now _ _ c.prop_values.ensures c.run.ensures.ran c.run.ensures.executes
