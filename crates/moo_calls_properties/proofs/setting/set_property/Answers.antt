use Rattle.std.proofs.Common.{rules, ◌≡◌, ap, ◌∙◌}
use Rattle.moo_rows.specs.declared.row.SlotState.TheVariants.{Set}
use Rattle.moo_world.{specs.Changes.{value_set}, specs.Outcomes.{fails}, specs.PropertyCalls.{set_property}}
use Rattle.moo_calls_shared.{specs.Outcomes.{world_in}}
use Rattle.moo_props.{specs.Names.{spelling_of}, proofs.Quotas.{folded_spelling}}
use Rattle.moo_calls_properties.proofs.PropertyNames.{slot_named}
use Rattle.moo_calls_properties.proofs.setting.set_property.Goals as goal

pub returns-in_err-found : goal.returns-in_err-found
returns-in_err-found g c =
    let failed : set_property (world_in (g.R.Rows.held c.args.rows.now)) c.args.programmer c.args.x c.args.name.now c.args.value.now ≡ fails c.in_err-found.field-0.0 =
    c.in_err-found.ensures.err _
    in search rules

pub returns : goal.returns
returns g c =
    let m = (g.R.Rows.held c.args.rows.now).maps in
    let w = world_in (g.R.Rows.held c.args.rows.now) in
    let left : world_in (g.R.Rows.held c.set_value.new.rows) ≡ value_set w c.args.x c.args.name.now c.args.value.now =
    c.in_ok-set_value.ensures.world
    ∙ slot_named w c.args.x (spelling_of m c.in_ok-found.found.id) c.args.name.now (folded_spelling m c.in_ok-found.found.id ∙ c.in_ok-found.ensures.named) (λ s. record s { state = Set c.in_ok-value.value })
    ∙ ap (value_set w c.args.x c.args.name.now) c.in_ok-value.ensures
    in search rules
