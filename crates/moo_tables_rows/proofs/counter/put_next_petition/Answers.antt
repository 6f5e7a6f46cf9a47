use Rattle.moo_tables_rows.proofs.Words.{sym, subst, OnOk, with_next_petition, Changes}
use Rattle.moo_tables_rows.proofs.counter.put_next_petition.Goals as goal

pub returns-in-Some-clause-put : goal.returns-in-Some-clause-put
returns-in-Some-clause-put g c =
    subst (λ next. OnOk c.put_counter.result (Changes (with_next_petition next) (g.T.Run.state c.args.tx.now) (g.T.Run.state c.put_counter.new.tx))) (sym c.in-Some.is) c.put_counter.ensures.put
