use Rattle.std.{proofs.Common.{rules, ◌≡◌}, specs.Prelude.{unwrap_or}}
use Rattle.moo_world.{specs.Answers.{zero}, specs.Objects.{folded}, specs.Outcomes.{Done, fails}, specs.PropertyCalls.{get_property}, specs.World.{read_of}}
use Rattle.moo_calls_shared.{specs.Outcomes.{world_in}}
use Rattle.moo_calls_properties.proofs.reading.get_property.Goals as goal

pub returns-in_err-found : goal.returns-in_err-found
returns-in_err-found g c =
    let w = world_in (g.R.Rows.held c.args.rows.now) in
    let failed : get_property w c.args.programmer c.args.x c.args.name.now ≡ fails c.in_err-found.field-0.0 =
    c.in_err-found.ensures.err (λ s. Done (unwrap_or (read_of w c.args.x (folded c.args.name.now)) zero) w)
    in search rules

pub returns : goal.returns
returns g c =
    let w = world_in (g.R.Rows.held c.args.rows.now) in
    let read = c.in_ok-found.ensures.ok (λ s. Done (unwrap_or (read_of w c.args.x (folded c.args.name.now)) zero) w) in
    search rules
