use Rattle.moo_run.{proofs.Words.{sym, ◌∙◌}, proofs.Beginning.{memory_begins}, proofs.OverFiles.{runs_task}}
use Rattle.moo_run.proofs.files.run_task.Goals as goal

pub run_in_memory-requires-clause-anew : goal.run_in_memory-requires-clause-anew
run_in_memory-requires-clause-anew g c = memory_begins c.args.task (sym c.eq.ensures ∙ c.if-eq.true)

pub returns-else-eq-clause-runs : goal.returns-else-eq-clause-runs
returns-else-eq-clause-runs g c = runs_task c.args.task _ c.run_from.result _ c.run_from.ensures.runs
