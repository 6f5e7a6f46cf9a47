use Rattle.std.proofs.Common.{rules, ◌≡◌, ap, sym, ◌∙◌}
use Rattle.moo_world.{specs.Answers.{flag}, specs.Outcomes.{Done, fails}, specs.PropertyCalls.{is_clear, is_clear_property}, specs.World.{is_object}}
use Rattle.moo_calls_shared.{specs.Outcomes.{world_in}, proofs.Passed.{check_passed}}
use Rattle.moo_calls_properties.proofs.clearing.is_clear_property.Goals as goal

pub returns-in_err-found : goal.returns-in_err-found
returns-in_err-found g c =
    let w = world_in (g.R.Rows.held c.args.rows.now) in
    let failed : is_clear_property w c.args.programmer c.args.x c.args.name.now ≡ fails c.in_err-found.field-0.0 =
    check_passed (is_object w c.args.x) _ _ (sym c.valid.ensures ∙ c.if-not-valid.false)
    ∙ c.in_err-found.ensures.err (λ s. Done (flag (is_clear s.state)) w)
    in search rules

pub returns : goal.returns
returns g c =
    let w = world_in (g.R.Rows.held c.args.rows.now) in
    record {
      comes =
          check_passed (is_object w c.args.x) _ _ (sym c.valid.ensures ∙ c.if-not-valid.false)
          ∙ c.in_ok-found.ensures.ok (λ s. Done (flag (is_clear s.state)) w)
          ∙ ap (λ clear. Done (flag clear) w) (sym c.is_clear.ensures)
          ∙ ap (λ answer. Done answer w) (sym c.flag.ensures);
    }
