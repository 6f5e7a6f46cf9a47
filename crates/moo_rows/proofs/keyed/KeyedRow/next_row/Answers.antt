use Rattle.moo_rows.{proofs.Words.{IsTotalOrder, CmpEqualImpliesEq, sym, subst}, proofs.Walking.{next-end, next_row-some, next_row-none}}
use Rattle.moo_rows.proofs.keyed.KeyedRow.next_row.Goals as goal

pub returns-in_err-key-clause-none : goal.returns-in_err-key-clause-none
returns-in_err-key-clause-none g c =
    let e = next-end (subst IsTotalOrder (sym g.met.Self.KeyedRow.ordered) g.met.Self.Key.Ord.total) (g.Self.KeyedRow.map_of (g.R.Rows.held c.args.rows.now).maps) c.args.from c.in_err-key.ensures in
    rw c.from_residual.ensures e

pub returns-clause-some : goal.returns-clause-some
returns-clause-some g c =
    let key = g.met.Self.KeyedRow.ordered in
    next_row-some (subst IsTotalOrder (sym key) g.met.Self.Key.Ord.total) (subst CmpEqualImpliesEq (sym key) g.met.Self.Key.OrderedKey.exact) (g.Self.KeyedRow.map_of (g.R.Rows.held c.args.rows.now).maps) c.args.from c.in_ok-key.key c.find.result
    c.zip.result c.zip.ensures c.find.ensures c.in_ok-key.ensures

pub returns-clause-none : goal.returns-clause-none
returns-clause-none g c =
    let key = g.met.Self.KeyedRow.ordered in
    next_row-none (subst IsTotalOrder (sym key) g.met.Self.Key.Ord.total) (subst CmpEqualImpliesEq (sym key) g.met.Self.Key.OrderedKey.exact) (g.Self.KeyedRow.map_of (g.R.Rows.held c.args.rows.now).maps) c.args.from c.in_ok-key.key c.find.result
    c.zip.result c.zip.ensures c.find.ensures c.in_ok-key.ensures
