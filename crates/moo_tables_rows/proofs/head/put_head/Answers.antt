use Rattle.moo_tables_rows.{proofs.Words.{Ok, StopsChange, arith, head_table, put_text, refl, update_text}, proofs.InsideLemmas.{changes_then}, proofs.CauseLemmas.{err_again, reaches, err_after}, proofs.HeadLemmas.{wrote}}
use Rattle.moo_tables_rows.proofs.head.put_head.Goals as goal

pub returns-in_err-count-clause-cause : goal.returns-in_err-count-clause-cause
returns-in_err-count-clause-cause g c clean tables seen =
    let done = ((wrote _ _ c.args.row.now (update_text head_table) _ c.run.result c.head_values-values.ensures c.run.ensures.ran c.run.ensures.executes).updates refl).1 clean tables seen in
    err_again c.run.result c.from_residual.result c.in_err-count.field-0.0 (StopsChange (g.T.Run.state c.args.tx.now) (g.T.Run.state c.run.new.self)) c.in_err-count.was c.from_residual.ensures.1 done

pub returns-then-count-gt0-clause-put : goal.returns-then-count-gt0-clause-put
returns-then-count-gt0-clause-put g c =
    ((wrote _ _ c.args.row.now (update_text head_table) _ (Ok c.in_ok-count.count) c.head_values-values.ensures c.in_ok-count.ensures.ran c.in_ok-count.ensures.executes).updates refl).0.found (omega arith)

pub returns-in_err-run-clause-cause : goal.returns-in_err-run-clause-cause
returns-in_err-run-clause-cause g c =
    let over = ((wrote _ _ c.args.row.now (update_text head_table) _ (Ok c.in_ok-count.count) c.head_values-values.ensures c.in_ok-count.ensures.ran c.in_ok-count.ensures.executes).updates refl).0 in
    let first = reaches c.run.ensures.inside (over.missed (omega arith)) in
    let cause = ((wrote _ _ c.args.row.now (put_text head_table) _ c.run-2.result c.head_values-values.ensures c.run-2.ensures.ran c.run-2.ensures.executes).puts refl).1 in
    err_after c.run-2.result c.from_residual-in_err-run.result first c.run-2.ensures.inside cause c.in_err-run.was c.from_residual-in_err-run.ensures.1

pub returns-clause-put : goal.returns-clause-put
returns-clause-put g c =
    let over = ((wrote _ _ c.args.row.now (update_text head_table) _ (Ok c.in_ok-count.count) c.head_values-values.ensures c.in_ok-count.ensures.ran c.in_ok-count.ensures.executes).updates refl).0 in
    changes_then c.run-2.ensures.inside (over.missed (omega arith))
    ((wrote _ _ c.args.row.now (put_text head_table) _ (Ok c.in_ok-run.field-0) c.head_values-values.ensures c.in_ok-run.ensures.ran c.in_ok-run.ensures.executes).puts refl).0
