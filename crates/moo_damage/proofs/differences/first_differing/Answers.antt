use Rattle.moo_damage.{proofs.Words.{arith, IsTotalOrder, CmpEqualImpliesEq, sym, subst}, proofs.Unlike.{first_unlike}}
use Rattle.moo_damage.proofs.differences.first_differing.Goals as goal

pub returns : goal.returns
returns g c =
    let key = g.met.T.KeyedRow.ordered in
    let a = g.T.KeyedRow.map_of (g.R.Rows.held c.args.own.now).maps in
    let b = g.T.KeyedRow.map_of (g.R.Rows.held c.args.found.now).maps in
    rw (c.least.ensures, ← key) (first_unlike (subst IsTotalOrder (sym key) g.met.T.Key.Ord.total) (subst CmpEqualImpliesEq (sym key) g.met.T.Key.OrderedKey.exact) a b c.first_unlike.result c.first_unlike-2.result c.first_unlike.ensures c.first_unlike-2.ensures)
