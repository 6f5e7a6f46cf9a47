use Rattle.moo_dump.{proofs.Words.{◌≡◌, [], sym, ap, ◌∙◌, arith, length, ids_defined, LeadsUp}, proofs.Skipping.{leads_up, all_on, all_pushed}}
use Rattle.moo_dump.proofs.skips.way_up.Goals as goal
use Rattle.std.proofs.lemmas.List.{nil_from_length}
use Rattle.moo_tree.proofs.Words.{chain_of_row, look_ups}

pub returns-in-Some-get : goal.returns-in-Some-get
returns-in-Some-get g c =
    let t = (g.R.Rows.held c.args.rows.now).maps in
    all_on t c.loop-row.way.items c.loop-row.at c.in-Some-get.above.now c.loop-row.invariant (c.requires.up c.loop-row.at c.in-Some-get.above.now (sym c.in-Some-get.ensures.value))

pub loop-row-smaller : goal.loop-row-smaller
loop-row-smaller g c = omega (arith, ap length (chain_of_row (look_ups (g.R.Rows.held c.args.rows.now).maps) c.requires.tree c.loop-row.at c.in-Some.row.now c.in-Some.ensures))

pub loop-row-preserved : goal.loop-row-preserved
loop-row-preserved g c =
    let t = (g.R.Rows.held c.args.rows.now).maps in
    let empty : c.ids_listed.result.now ≡ [] = nil_from_length c.ids_listed.result.now (omega arith) in
    let none : ids_defined t c.loop-row.at ≡ [] = sym (c.ids_listed.ensures ∙ c.requires.listed c.loop-row.at) ∙ empty in
    let leads : LeadsUp t c.loop-row.at c.in-Some.row.now.parent = leads_up t c.requires.tree c.loop-row.at c.in-Some.row.now c.in-Some.ensures none in
    rw c.in_ok-push.ensures.items (all_pushed (λ y. LeadsUp t y c.in-Some.row.now.parent) c.loop-row.way.items c.loop-row.at (all_on t c.loop-row.way.items c.loop-row.at c.in-Some.row.now.parent c.loop-row.invariant leads) leads)
