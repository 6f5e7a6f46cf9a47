use Rattle.std.proofs.Common.{rules, ◌≡◌, ◌∙◌}
use Rattle.moo_world.specs.Changes.{property_removed}
use Rattle.moo_calls_shared.specs.Outcomes.{world_in}
use Rattle.moo_props.{specs.Names.{spelling_of}, proofs.Quotas.{folded_spelling}}
use Rattle.moo_calls_properties.proofs.PropertyNames.{undefined_named}
use Rattle.moo_calls_properties.proofs.deleting.delete_property.Goals as goal

pub returns : goal.returns
returns g c =
    let m = (g.R.Rows.held c.args.rows.now).maps in
    let w = world_in (g.R.Rows.held c.args.rows.now) in
    let left : world_in (g.R.Rows.held c.undefine.new.rows) ≡ property_removed w c.args.x c.args.name.now =
    c.in_ok-undefine.ensures.world
    ∙ undefined_named w c.args.x (spelling_of m c.in-Some.id) c.args.name.now (folded_spelling m c.in-Some.id ∙ c.in-Some.ensures.named)
    in search rules
