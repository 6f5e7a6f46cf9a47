use Rattle.moo_tables_rows.{proofs.Words.{◌∙◌, take, subst, sym, take_all, with_each, Sees, KeepsUnread}, proofs.InsideLemmas.{stays_then, changes_then}, proofs.CauseLemmas.{Reaches, err_after}, proofs.ChangeLemmas.{fold_more}}
use Rattle.moo_tables_rows.proofs.writing.write_rows.Goals as goal

pub loop-change-preserved : goal.loop-change-preserved
loop-change-preserved g c =
    let old = g.T.Run.state c.args.tx.now in
    let new = g.T.Run.state c.write_row.new.tx in
    let with_row = g.R.TableRow.with_row in
    let was = c.loop-change.invariant in
    let done = c.in_ok-expected.ensures in
    let x = c.change-item.result in (
      done.same_reference ∙ was.0,
      stays_then was.1 done.inside,
      λ clean tables seen. subst (λ t. Sees new t × KeepsUnread old.now new.now) (sym (fold_more (λ t y. with_row y.0 y.1 t) tables c.args.changes.now c.loop-change.change-index x c.loop-change-test.true c.change-item.is))
          (changes_then done.inside was.2 done.written clean tables seen),
    )

pub returns-clause-written : goal.returns-clause-written
returns-clause-written g c clean tables seen =
    let old = g.T.Run.state c.args.tx.now in
    let new = g.T.Run.state c.loop-change.tx in
    subst (λ changes. Sees new (with_each g.R.TableRow.with_row changes tables) × KeepsUnread old.now new.now) (take_all c.loop-change.change-index c.args.changes.now c.loop-change-test.false) (c.loop-change.invariant.2 clean tables seen)

pub returns-in_err-expected-clause-cause : goal.returns-in_err-expected-clause-cause
returns-in_err-expected-clause-cause g c =
    let old = g.T.Run.state c.args.tx.now in
    let mid = g.T.Run.state c.loop-change.tx in
    let was = c.loop-change.invariant in
    let reached : Reaches old mid = record { inside = was.1; sees = λ clean tables seen. (with_each g.R.TableRow.with_row (take c.loop-change.change-index c.args.changes.now) tables, (was.2 clean tables seen).0) } in
    err_after c.write_row.result c.from_residual.result reached c.write_row.ensures.inside c.write_row.ensures.cause c.in_err-expected.was c.from_residual.ensures.1
