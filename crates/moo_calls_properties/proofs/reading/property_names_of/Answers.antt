use Rattle.std.proofs.Common.{rules, ◌≡◌, ◌∙◌, ap, map}
use Rattle.moo_rows.specs.Links.{defined_left}
use Rattle.moo_world.specs.Rows.{prop_id}
use Rattle.moo_props.{proofs.DefinedNames.{names_listed}, proofs.WholeWalks.{defined_all}}
use Rattle.moo_calls_properties.proofs.reading.property_names_of.Goals as goal

pub returns : goal.returns
returns g c =
    let m = (g.R.Rows.held c.args.rows.now).maps in
    let all : c.loop-id.names.items ≡ map (λ e. e.1.name) (defined_left c.args.x (prop_id 0) m) = search rules in
    all ∙ ap (map (λ e. e.1.name)) (defined_all m c.requires c.args.x) ∙ names_listed m c.requires.sound c.args.x
