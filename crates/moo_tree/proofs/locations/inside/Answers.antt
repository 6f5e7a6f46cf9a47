use Rattle.moo_tree.proofs.Words.{◌≡◌, length, sym, ap, ◌∙◌, true, arith, is_among, same_object, same_object-eq, is_among_here, is_among_later, look_ups}
use Rattle.moo_tree.proofs.locations.inside.Goals as goal
use Rattle.moo_world.proofs.Ancestry.Locations.{places_of_row, places_of_no_row}

pub returns-then-eq : goal.returns-then-eq
returns-then-eq g c =
    let m = look_ups (g.R.Rows.held c.args.rows.now).maps in
    let same : same_object c.args.y c.loop-row.at ≡ true = sym (same_object-eq c.args.y c.loop-row.at) ∙ sym c.if-eq.ensures in
    sym (sym c.loop-row.invariant ∙ is_among_here c.args.y c.loop-row.at _ _ (places_of_row m c.requires c.loop-row.at c.in-Some.row.now c.in-Some.ensures) same)

pub loop-row-smaller : goal.loop-row-smaller
loop-row-smaller g c = omega (arith, ap length (places_of_row (look_ups (g.R.Rows.held c.args.rows.now).maps) c.requires c.loop-row.at c.in-Some.row.now c.in-Some.ensures))

pub loop-row-preserved : goal.loop-row-preserved
loop-row-preserved g c = grind (arith, same_object-eq, is_among_later, places_of_row)

pub returns : goal.returns
returns g c = ap (is_among c.args.y) (sym (places_of_no_row (look_ups (g.R.Rows.held c.args.rows.now).maps) c.loop-row.at c.in_default.ensures)) ∙ c.loop-row.invariant
