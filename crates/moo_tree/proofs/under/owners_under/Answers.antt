use Rattle.moo_tree.{proofs.Words.{◌≡◌, IfOk, subst, items_from_collect, YieldsList-from_rest}, proofs.Found.{owners_found}}
use Rattle.moo_tree.proofs.under.owners_under.Goals as goal

pub returns : goal.returns
returns g c =
    let t = (g.R.Rows.held c.args.rows.now).maps in
    let found = c.in_ok-owner_map_under.field-0 in
    let gives = c.into_iter.ensures.into_iter_gives in
    subst (λ l. IfOk c.collect.result (λ v. v.items ≡ l)) (owners_found t c.args.x found gives.5 c.in_ok-owner_map_under.ensures)
    (items_from_collect c.collect.result c.collect.ensures.ran (YieldsList-from_rest found.entries gives.0))
