use Rattle.moo_damage.{proofs.Words.{IsTotalOrder, CmpEqualImpliesEq, true, false, refl, sym, ap, subst, arith, length, entries}, specs.First.{MaySay}, proofs.Firsts.{FirstIn, went_on, ended, stopped}}
use Rattle.moo_rows.proofs.Walking.{past_none}
use Rattle.moo_damage.proofs.first.first_bad.Goals as goal

pub loop-next-init : goal.loop-next-init
loop-next-init g c o = grind (arith, past_none)

pub returns-then-is_bad : goal.returns-then-is_bad
returns-then-is_bad g c =
    let key = g.met.T.KeyedRow.ordered in
    stopped (MaySay g.F.Fn c.args.is_bad false) (MaySay g.F.Fn c.args.is_bad true) (subst IsTotalOrder (sym key) g.met.T.Key.Ord.total) (subst CmpEqualImpliesEq (sym key) g.met.T.Key.OrderedKey.exact)
    (g.T.KeyedRow.map_of (g.R.Rows.held c.args.rows.now).maps) _ _ (c.in-Some.next.0, c.in-Some.next.1.now) c.in-Some.ensures.some c.loop-next.invariant
    (c.in-Some.next.1, refl, record { met = c.if-is_bad.ensures })

pub loop-next-preserved : goal.loop-next-preserved
loop-next-preserved g c =
    went_on (MaySay g.F.Fn c.args.is_bad false) (MaySay g.F.Fn c.args.is_bad true) _ _ _ (c.in-Some.next.0, c.in-Some.next.1.now) c.in-Some.ensures.some c.loop-next.invariant
    (c.in-Some.next.1, refl, record { met = c.if-is_bad.ensures })

pub loop-next-smaller : goal.loop-next-smaller
loop-next-smaller g c = let short = ap length c.in-Some.ensures.some in omega (arith, short)

pub returns : goal.returns
returns g c =
    let key = g.met.T.KeyedRow.ordered in
    ended (MaySay g.F.Fn c.args.is_bad false) (MaySay g.F.Fn c.args.is_bad true) (subst IsTotalOrder (sym key) g.met.T.Key.Ord.total) (subst CmpEqualImpliesEq (sym key) g.met.T.Key.OrderedKey.exact)
    (g.T.KeyedRow.map_of (g.R.Rows.held c.args.rows.now).maps) _ c.in_default.ensures.none c.loop-next.invariant
