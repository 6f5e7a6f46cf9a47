use Rattle.moo_dump.proofs.Words.{arith, sym, subst, AllByRecursion, LeadsUp}
use Rattle.moo_dump.proofs.skips.all_skips.Goals as goal

pub loop-row-preserved : goal.loop-row-preserved
loop-row-preserved g c =
    let t = (g.R.Rows.held c.args.rows.now).maps in
    c.in_ok-add_way.ensures t c.loop-row.invariant (subst (AllByRecursion (λ y. LeadsUp t y c.in_ok-way.above)) (sym c.deref.ensures.value) c.in_ok-way.ensures)
