use Rattle.std.{proofs.Common.{length, sym, ap, ◌∙◌, arith}, specs.Option.{option_or}}
use Rattle.moo_world.{specs.World.{chain}, specs.Rows.{look_ups}, specs.Rights.{accept_along}, proofs.Shown.Seen.{chain_of_row}}
use Rattle.moo_calls_shared.{specs.Outcomes.{world_in}, proofs.AcceptLaws.{accept_of_row, accept_of_no_row}}
use Rattle.moo_calls_shared.proofs.accepting.list_that_counts.Goals as goal

pub returns-in-Some-accept : goal.returns-in-Some-accept
returns-in-Some-accept g c =
    let w = world_in (g.R.Rows.held c.args.rows.now) in
    let here = accept_of_row (look_ups (g.R.Rows.held c.args.rows.now).maps) c.requires c.loop-row.at c.in-Some.row.now c.in-Some.ensures in
    let rest = accept_along w (chain w c.in-Some.row.now.parent) in
    sym (sym c.loop-row.invariant ∙ here ∙ ap (λ o. option_or o rest) c.in-Some-accept.is)

pub loop-row-smaller : goal.loop-row-smaller
loop-row-smaller g c = omega (arith, ap length (chain_of_row (look_ups (g.R.Rows.held c.args.rows.now).maps) c.requires c.loop-row.at c.in-Some.row.now c.in-Some.ensures))

pub loop-row-preserved : goal.loop-row-preserved
loop-row-preserved g c =
    let here = accept_of_row (look_ups (g.R.Rows.held c.args.rows.now).maps) c.requires c.loop-row.at c.in-Some.row.now c.in-Some.ensures in
    let rest = accept_along (world_in (g.R.Rows.held c.args.rows.now)) (chain (world_in (g.R.Rows.held c.args.rows.now)) c.in-Some.row.now.parent) in
    sym (here ∙ ap (λ o. option_or o rest) c.in_default-accept.is) ∙ c.loop-row.invariant

pub returns : goal.returns
returns g c = sym (sym c.loop-row.invariant ∙ accept_of_no_row (look_ups (g.R.Rows.held c.args.rows.now).maps) c.loop-row.at c.in_default.ensures)
