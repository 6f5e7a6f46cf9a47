use Rattle.moo_props.{proofs.Words.{arith, ◌||◌, sym, subst, ChildOf, Within, object_exact, IsFirst, is_linked, object_cmp, object_total}, proofs.WholeWalks.{linked-first}}
use Rattle.moo_props.proofs.dropping.next_linked_to.Goals as goal
use Rattle.moo_rows.proofs.Firsts.{either-first}

pub returns : goal.returns
returns g c =
    let t = (g.R.Rows.held c.args.rows.now).maps in
    let x = c.args.x in
    linked-first t x c.args.last c.least.result
    (subst (IsFirst object_cmp (λ y. is_linked t (ChildOf x) y || is_linked t (Within x) y) c.args.last) (sym c.least.ensures)
    (either-first object_total object_exact (is_linked t (ChildOf x)) (is_linked t (Within x)) c.args.last _ _ c.next_linked.ensures c.next_linked-2.ensures))
