use Rattle.moo_cells.{proofs.Words.{◌≡◌, ◌<◌, length, entries, Bool, true, false, not, Option, None, Some, arith, sym, ap, ◌∙◌, subst, subst₂, ShowEach}, proofs.Beside.{one_more}}
use Rattle.moo_rows.proofs.Walking.{past_none}
use Rattle.moo_cells.proofs.showing.show_each.Goals as goal
use Rattle.std.{proofs.lemmas.List.{drop_all}, specs.Option.{is_some}, specs.Prelude.{IfNone}}

pub loop-row-preserved : goal.loop-row-preserved
loop-row-preserved g c =
    let within : c.loop-row.row-index < length c.args.cells.now = omega arith in
    one_more (g.R.ReadRow.reads c.args.version) c.args.cells.now c.loop-row.row-index c.row-item.result within c.row-item.is _ _ _ (c.in-Some.next.0, c.in-Some.next.1.now) c.in-Some.ensures.some (c.in_ok-shows.ensures c.if-not-branch.false)
    c.loop-row.invariant

-- if there is no next row nothing was left
ended : {K : Type 0} {P : Type 0} (r : Option K) (b : Bool) → is_some r ≡ not b → b ≡ true → IfNone r P → P
ended None b some none it = it
ended (Some x) b some none it = absurd (let e : true ≡ false = some ∙ ap not none in cc)

pub returns : goal.returns
returns g c = λ none.
    let over = ended c.next_row-2.result c.is_none.result c.is_none.ensures none c.next_row-2.ensures.none in
    let all = past_none g.R.KeyedRow.order (entries (g.R.KeyedRow.map_of c.args.rows.now.maps)) in
    subst (ShowEach (g.R.ReadRow.reads c.args.version) c.args.cells.now) all
    (c.loop-row.invariant (subst₂ (ShowEach (g.R.ReadRow.reads c.args.version)) (sym (drop_all c.loop-row.row-index c.args.cells.now c.loop-row-test.false)) (sym over) tt))
