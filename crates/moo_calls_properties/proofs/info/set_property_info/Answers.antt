use Rattle.std.{proofs.Common.{rules, ◌≡◌, ap, ◌∙◌}, specs.Option.{option_map}}
use Rattle.moo_world.{specs.Changes.{info_set}, specs.Objects.{same_object}, specs.PropertyCalls.{may_rename, renamed_to}, specs.Rows.{world_shown}}
use Rattle.moo_calls_shared.specs.Outcomes.{world_in}
use Rattle.moo_props.{specs.Names.{spelling_of}, proofs.Quotas.{folded_spelling}}
use Rattle.moo_calls_properties.proofs.PropertyNames.{may_rename_named, info_named}
use Rattle.moo_calls_properties.proofs.info.set_property_info.Goals as goal

pub change_info-requires-clause-may : goal.change_info-requires-clause-may
change_info-requires-clause-may g c =
    let m = (g.R.Rows.held c.args.rows.now).maps in
    let w = world_in (g.R.Rows.held c.args.rows.now) in
    ap (may_rename w c.args.x (spelling_of m c.in_ok-id.id)) c.in_ok-new.ensures
    ∙ may_rename_named w c.args.x (spelling_of m c.in_ok-id.id) c.args.name.now (folded_spelling m c.in_ok-id.id ∙ c.in_ok-id.ensures.named) (option_map (λ n. n.now) c.args.new_name)
    ∙ c.in_ok-id.ensures.may

pub returns : goal.returns
unfolding same_object world_shown
returns g c =
    let m = (g.R.Rows.held c.args.rows.now).maps in
    let w = world_in (g.R.Rows.held c.args.rows.now) in
    let left : world_in (g.R.Rows.held c.change_info.new.rows) ≡ renamed_to (info_set w c.args.x c.args.name.now c.args.info.owner c.in_ok-id.bits) c.args.x c.args.name.now (option_map (λ n. n.now) c.args.new_name) =
    c.in_ok-change_info.ensures.world
    ∙ info_named c.args.x (spelling_of m c.in_ok-id.id) c.args.name.now (folded_spelling m c.in_ok-id.id ∙ c.in_ok-id.ensures.named) w c.args.info.owner c.in_ok-id.bits c.in_ok-new.new
    ∙ ap (renamed_to (info_set w c.args.x c.args.name.now c.args.info.owner c.in_ok-id.bits) c.args.x c.args.name.now) c.in_ok-new.ensures
    in search rules
