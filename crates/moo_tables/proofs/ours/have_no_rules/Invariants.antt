use Rattle.moo_tables.{proofs.Words.{take, AllByRecursion}, specs.Ours.{HasNoRules}}
use Rattle.moo_tables.proofs.ours.have_no_rules.Given as goal

abbrev pub invariant-loop-table : goal.invariant-loop-table
invariant-loop-table l = AllByRecursion HasNoRules (take l.table-index l.tables)
