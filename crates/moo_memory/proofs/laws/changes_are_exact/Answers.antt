use Rattle.moo_memory.proofs.Exactly.{are-changes-unique, changes-give_rows, undone-no_change}
use Rattle.moo_memory.proofs.laws.changes_are_exact.Goals as goal

pub returns-clause-unique : goal.returns-clause-unique
returns-clause-unique c = are-changes-unique

pub returns-clause-rows : goal.returns-clause-rows
returns-clause-rows c = changes-give_rows

pub returns-clause-undone : goal.returns-clause-undone
returns-clause-undone c = undone-no_change
