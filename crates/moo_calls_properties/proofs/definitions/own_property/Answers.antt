use Rattle.std.proofs.Common.{sym, ap, ◌∙◌}
use Rattle.moo_world.{specs.Objects.{folded, same_object}, specs.Rows.{slot_seen}}
use Rattle.moo_calls_shared.specs.Outcomes.{world_in}
use Rattle.moo_props.proofs.FoundSlots.{definer_found}
use Rattle.moo_calls_properties.proofs.OwnProperty.{owns_slot, owns_by_slot}
use Rattle.moo_calls_properties.proofs.definitions.own_property.Goals as goal

pub returns-then-eq-clause-exact : goal.returns-then-eq-clause-exact
unfolding same_object
returns-then-eq-clause-exact g c =
    sym c.if-eq.true ∙ c.eq.ensures ∙ ap (owns_slot c.args.x) c.in-Some.ensures.slot
    ∙ owns_by_slot (world_in (g.R.Rows.held c.args.rows.now)) c.requires.formed c.args.x c.args.name.now

pub returns-then-eq-clause-own : goal.returns-then-eq-clause-own
unfolding same_object
returns-then-eq-clause-own g c =
    let found = c.in-Some.ensures in
    definer_found (g.R.Rows.held c.args.rows.now).maps c.requires.sound c.args.x c.in-Some.found.id (folded c.args.name.now) (slot_seen c.in-Some.found.definer c.in-Some.found.slot.now) found.held found.named found.slot
    ∙ sym c.eq.ensures ∙ c.if-eq.true

pub returns-else-eq-clause-exact : goal.returns-else-eq-clause-exact
unfolding same_object
returns-else-eq-clause-exact g c =
    sym c.if-eq.false ∙ c.eq.ensures ∙ ap (owns_slot c.args.x) c.in-Some.ensures.slot
    ∙ owns_by_slot (world_in (g.R.Rows.held c.args.rows.now)) c.requires.formed c.args.x c.args.name.now

pub returns-in_default-clause-exact : goal.returns-in_default-clause-exact
returns-in_default-clause-exact g c =
    ap (owns_slot c.args.x) c.in_default.ensures.slot
    ∙ owns_by_slot (world_in (g.R.Rows.held c.args.rows.now)) c.requires.formed c.args.x c.args.name.now
