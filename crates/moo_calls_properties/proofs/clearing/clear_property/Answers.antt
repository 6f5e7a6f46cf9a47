use Rattle.std.proofs.Common.{rules, ◌≡◌, sym, ◌∙◌}
use Rattle.moo_rows.specs.declared.row.SlotState.TheVariants.{Clear}
use Rattle.moo_world.{specs.Changes.{cleared}, specs.Objects.{folded, same_object}, specs.Rows.{slot_seen, world_shown}, specs.Outcomes.{fails}, specs.PropertyCalls.{clear_property}, specs.World.{is_object}}
use Rattle.moo_calls_shared.{specs.Outcomes.{world_in}, proofs.Passed.{check_passed}}
use Rattle.moo_props.{specs.Names.{spelling_of}, proofs.FoundSlots.{definer_found}, proofs.Quotas.{folded_spelling}}
use Rattle.moo_calls_properties.proofs.PropertyNames.{slot_named}
use Rattle.moo_calls_properties.proofs.clearing.clear_property.Goals as goal

pub clear-requires-clause-inherited : goal.clear-requires-clause-inherited
unfolding same_object
clear-requires-clause-inherited g c =
    let found = c.in_ok-found.ensures in
    definer_found (g.R.Rows.held c.args.rows.now).maps c.requires.sound c.args.x c.in_ok-found.found.id (folded c.args.name.now) (slot_seen c.in_ok-found.found.definer c.in_ok-found.found.slot.now) found.held found.named (sym found.slot)
    ∙ sym c.eq.ensures ∙ c.if-eq.false

pub returns-in_err-found : goal.returns-in_err-found
returns-in_err-found g c =
    let w = world_in (g.R.Rows.held c.args.rows.now) in
    let failed : clear_property w c.args.programmer c.args.x c.args.name.now ≡ fails c.in_err-found.field-0.0 =
    check_passed (is_object w c.args.x) _ _ (sym c.valid.ensures ∙ c.if-not-valid.false)
    ∙ c.in_err-found.ensures.err _
    in search rules

pub returns : goal.returns
unfolding same_object world_shown
returns g c =
    let m = (g.R.Rows.held c.args.rows.now).maps in
    let w = world_in (g.R.Rows.held c.args.rows.now) in
    let left : world_in (g.R.Rows.held c.clear.new.rows) ≡ cleared w c.args.x c.args.name.now =
    c.in_ok-clear.ensures.world
    ∙ slot_named w c.args.x (spelling_of m c.in_ok-found.found.id) c.args.name.now (folded_spelling m c.in_ok-found.found.id ∙ c.in_ok-found.ensures.named) (λ s. record s { state = Clear })
    in search rules
