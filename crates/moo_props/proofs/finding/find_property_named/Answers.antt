use Rattle.moo_props.{proofs.Words.{◌≡◌, false, sym, ap, ◌∙◌, arith, length, look_ups, defines_name, world_of}, proofs.NamedOnes.{none_left, some_left, rest_left, above_next, own_held, own_row}}
use Rattle.moo_world.proofs.Shown.Seen.{chain_of_row}
use Rattle.moo_props.proofs.finding.find_property_named.Goals as goal

pub returns-in-Some-clause-held : goal.returns-in-Some-clause-held
returns-in-Some-clause-held g c = grind (arith, own_row, own_held)

pub returns-in-Some-clause-exact : goal.returns-in-Some-clause-exact
returns-in-Some-clause-exact g c = grind (arith, own_row, some_left)

pub climb-smaller : goal.climb-smaller
climb-smaller g c = omega (arith, ap length (chain_of_row (look_ups (g.R.Rows.held c.args.rows.now).maps) c.requires.formed.tree c.climb.at c.in-Some-object.row.now c.in-Some-object.ensures))

pub climb-preserved : goal.climb-preserved
climb-preserved g c =
    let t = (g.R.Rows.held c.args.rows.now).maps in
    let other : defines_name (world_of t) c.climb.at c.args.name.now ≡ false = sym c.in_default.ensures.exact in
    record {
      any = rest_left t c.requires c.args.x c.climb.at c.in-Some-object.row.now c.in-Some-object.ensures c.args.name.now other ∙ c.climb.invariant.any;
      above = above_next t c.requires c.args.x c.climb.at c.in-Some-object.row.now c.in-Some-object.ensures c.climb.invariant.above;
    }

pub returns-in-None-clause-exact : goal.returns-in-None-clause-exact
returns-in-None-clause-exact g c = none_left (g.R.Rows.held c.args.rows.now).maps c.requires c.args.x c.args.name.now c.climb.at c.in-None.ensures c.climb.invariant.any
