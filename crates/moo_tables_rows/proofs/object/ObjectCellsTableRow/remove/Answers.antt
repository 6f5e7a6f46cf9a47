use Rattle.moo_tables_rows.{proofs.Words.{bound_value, ap, [], ◌∷◌}, proofs.ObjectLemmas.{removed}}
use Rattle.moo_tables_rows.proofs.object.ObjectCellsTableRow.remove.Goals as goal

pub returns-clause-gone : goal.returns-clause-gone
returns-clause-gone g c = (removed _ _ _ _ _ (ap (λ v. bound_value v ∷ []) c.object_value.ensures) c.run.ensures.ran c.run.ensures.executes).0

pub returns-clause-cause : goal.returns-clause-cause
returns-clause-cause g c = (removed _ _ _ _ _ (ap (λ v. bound_value v ∷ []) c.object_value.ensures) c.run.ensures.ran c.run.ensures.executes).1
