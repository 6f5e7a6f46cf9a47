use Rattle.moo_damage.{proofs.Words.{arith, IsTotalOrder, CmpEqualImpliesEq, ◌≡◌, ◌∙◌, subst, sym}, proofs.Firsts.{any_found, least_so}}
use Rattle.moo_damage.proofs.first.any_bad.Goals as goal

pub returns : goal.returns
returns g c test tells =
    let key = g.met.T.KeyedRow.ordered in
    c.is_some.ensures ∙ any_found (subst IsTotalOrder (sym key) g.met.T.Key.Ord.total) (subst CmpEqualImpliesEq (sym key) g.met.T.Key.OrderedKey.exact)
    (g.T.KeyedRow.map_of (g.R.Rows.held c.args.rows.now).maps) test c.first_bad.result (least_so g.F.Fn c.args.is_bad _ c.first_bad.result (λ b k r. test k r ≡ b) tells c.first_bad.ensures)
