use Rattle.std.{proofs.Common.{false, ap, ◌∙◌}, specs.Prelude.{unwrap_or}, specs.Option.{option_map}, specs.FinMap.{get}}
use Rattle.moo_rows.{specs.declared.row.PropRow.{PropRow}, specs.Maps.{Maps}}
use Rattle.moo_world.{specs.Changes.{clashes}, specs.Objects.{same_object}, specs.Rows.{world_of}, proofs.Shown.NumbersKept.{slots_then}}
use Rattle.moo_props.specs.Names.{spelling_of}
use Rattle.moo_calls_properties.proofs.Renamed.{may_parts, own_of_name, clashes_still}
use Rattle.moo_calls_properties.proofs.info.change_info.Goals as goal

pub rename-requires-clause-own : goal.rename-requires-clause-own
rename-requires-clause-own g c =
    let m = (g.R.Rows.held c.args.rows.now).maps in
    let may = may_parts (world_of m) c.args.x (spelling_of m c.args.id) c.in-Some.new c.args.new c.in-Some.is c.requires.may in
    ap (λ (maps : Maps). unwrap_or (option_map (λ (p : PropRow). same_object p.definer c.args.x) (get maps.props c.args.id)) false) c.in_ok-set_info.ensures.rest
    ∙ own_of_name m c.requires.good c.args.x c.args.id c.requires.has may.0

pub rename-requires-clause-name : goal.rename-requires-clause-name
rename-requires-clause-name g c =
    let m = (g.R.Rows.held c.args.rows.now).maps in
    (may_parts (world_of m) c.args.x (spelling_of m c.args.id) c.in-Some.new c.args.new c.in-Some.is c.requires.may).1

pub rename-requires-clause-free : goal.rename-requires-clause-free
rename-requires-clause-free g c =
    let m = (g.R.Rows.held c.args.rows.now).maps in
    let may = may_parts (world_of m) c.args.x (spelling_of m c.args.id) c.in-Some.new c.args.new c.in-Some.is c.requires.may in
    ap (λ w. clashes w c.args.x c.in-Some.new) c.in_ok-set_info.ensures.world
    ∙ clashes_still (world_of m) c.args.x (spelling_of m c.args.id) c.in-Some.new (λ s. record s { owner = c.args.owner; bits = c.args.bits })
    ∙ may.2

pub returns-in_ok-rename-clause-kept : goal.returns-in_ok-rename-clause-kept
returns-in_ok-rename-clause-kept g c =
    let info = c.in_ok-set_info.ensures in
    let name = c.in_ok-rename.ensures.kept in
    record {
      good = name.good;
      beside = name.beside ∙ info.kept.beside;
      base = name.base ∙ info.kept.base;
      numbers = slots_then (g.R.Rows.held c.args.rows.now).maps (g.R.Rows.held c.set_info.new.rows).maps (g.R.Rows.held c.rename.new.rows).maps info.rest name.numbers;
    }
