use Rattle.moo_tables_rows.proofs.Words.{subst, sym, OnOk, Changes}
use Rattle.moo_tables_rows.proofs.writing.write_row.Goals as goal

pub returns-in-Some-clause-written : goal.returns-in-Some-clause-written
returns-in-Some-clause-written g c =
    subst (λ cells. OnOk c.write_over.result (Changes (g.R.TableRow.with_row c.args.key cells) (g.T.Run.state c.args.tx.now) (g.T.Run.state c.write_over.new.tx))) (sym c.in-Some.is) c.write_over.ensures.written

pub returns-in-Some-2-clause-written : goal.returns-in-Some-2-clause-written
returns-in-Some-2-clause-written g c =
    subst (λ cells. OnOk c.write_new.result (Changes (g.R.TableRow.with_row c.args.key cells) (g.T.Run.state c.args.tx.now) (g.T.Run.state c.write_new.new.tx))) (sym c.in-Some-2.is) c.write_new.ensures.written

pub returns-in_ok-remove-in-None-clause-written : goal.returns-in_ok-remove-in-None-clause-written
returns-in_ok-remove-in-None-clause-written g c =
    subst (λ cells. Changes (g.R.TableRow.with_row c.args.key cells) (g.T.Run.state c.args.tx.now) (g.T.Run.state c.remove.new.tx)) (sym c.in-None.is) c.in_ok-remove-in-None.ensures.gone
