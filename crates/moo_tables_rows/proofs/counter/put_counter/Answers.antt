use Rattle.moo_tables_rows.{proofs.CounterLemmas.{put, put_fails}, proofs.RowLemmas.{ran_as}, proofs.StoppedLemmas.{with_values}}
use Rattle.moo_tables_rows.proofs.counter.put_counter.Goals as goal

pub returns-clause-put : goal.returns-clause-put
returns-clause-put g c = put _ _ c.args.next _ (ran_as _ _ _ _ _ _ c.counter_values.ensures c.run.ensures.ran)

pub returns-clause-cause : goal.returns-clause-cause
returns-clause-cause g c = put_fails _ _ c.args.next _ (with_values _ _ _ _ _ _ c.counter_values.ensures c.run.ensures.executes)
