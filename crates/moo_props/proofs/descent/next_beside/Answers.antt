use Rattle.moo_props.{proofs.Words.{◌≡◌, Bool, true, false, Some, length, refl, sym, ap, ◌∙◌, arith, not, not-true, true≢false, get, int_eq, ObjNo, ObjRow, Maps, is_among, same_object-eq, same_object-Decides, look_ups, world_of, IsTree, chain, chain_of_no_row, after_below}, proofs.Descending.{linked_child, chain_up, parent_under, still_under, sideward, upward, at_top}}
use Rattle.moo_props.proofs.descent.next_beside.Goals as goal

passes : (b : Bool) → false ≡ not b → b ≡ true
passes b e = grind arith

-- what is below x has a parent that is under x
above : (t : Maps) (tree : IsTree (world_of t)) (x y : ObjNo) (r : ObjRow) → Some r ≡ get t.objects y → true ≡ not (int_eq y.0 x.0) → is_among x (chain (world_of t) y) ≡ true → is_among x (chain (world_of t) r.parent) ≡ true
above t tree x y r row other under = parent_under t tree x y r.parent r (sym row) refl (sym (same_object-eq x y) ∙ not-true _ (sym other)) under

pub unreachable-requires : goal.unreachable-requires
unreachable-requires g c = grind (arith, true≢false, chain_of_no_row)

pub returns-in-Some-next_linked-clause-next : goal.returns-in-Some-next_linked-clause-next
returns-in-Some-next_linked-clause-next g c =
    let t = (g.R.Rows.held c.args.rows.now).maps in
    sideward t c.requires.tree c.args.x c.loop-x.done c.in-Some.row.now.parent c.in-Some-next_linked.next c.in-Some.row.now (sym c.in-Some.ensures) refl (above t c.requires.tree c.args.x c.loop-x.done c.in-Some.row.now c.in-Some.ensures c.loop-x-test.ensures c.loop-x.invariant.under) c.in-Some-next_linked.ensures
    ∙ c.loop-x.invariant.same

pub returns-in-Some-next_linked-clause-under : goal.returns-in-Some-next_linked-clause-under
returns-in-Some-next_linked-clause-under g c =
    let t = (g.R.Rows.held c.args.rows.now).maps in
    let k = linked_child t c.requires.tree c.in-Some.row.now.parent c.loop-x.done c.in-Some-next_linked.next c.in-Some-next_linked.ensures in
    still_under t c.requires.tree c.args.x c.in-Some-next_linked.next c.in-Some.row.now.parent k.0 k.1 k.2 (above t c.requires.tree c.args.x c.loop-x.done c.in-Some.row.now c.in-Some.ensures c.loop-x-test.ensures c.loop-x.invariant.under)

pub loop-x-smaller : goal.loop-x-smaller
loop-x-smaller g c = omega (arith, ap length (chain_up (g.R.Rows.held c.args.rows.now).maps c.requires.tree c.loop-x.done c.in-Some.row.now.parent c.in-Some.row.now (sym c.in-Some.ensures) refl))

pub loop-x-preserved : goal.loop-x-preserved
loop-x-preserved g c = grind (arith, upward, above)

pub returns-clause-next : goal.returns-clause-next
returns-clause-next g c =
    let t = (g.R.Rows.held c.args.rows.now).maps in
    let same = (same_object-Decides c.args.x c.loop-x.done).0 (sym (same_object-eq c.args.x c.loop-x.done) ∙ passes _ c.loop-x-test.ensures) in
    sym (at_top t c.requires.tree c.args.x) ∙ ap (after_below t c.args.x) same ∙ c.loop-x.invariant.same
