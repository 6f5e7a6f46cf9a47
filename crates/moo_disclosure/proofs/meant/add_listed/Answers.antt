use Rattle.std.{proofs.Common.{◌≡◌, ◌∙◌, ◌++◌, [], false, take, sym, ap, rules}, specs.Prelude.{if◌then◌else◌}, proofs.lemmas.List.{take_all, append-nil}}
use Rattle.moo_world.specs.Rows.{world_of}
use Rattle.moo_world.specs.Rights.{may_read_object}
use Rattle.moo_world.specs.World.{property_names_of}
use Rattle.moo_disclosure.proofs.meant.add_listed.Goals as goal

pub returns-else-may_read_object : goal.returns-else-may_read_object
returns-else-may_read_object g c =
    let w = world_of (g.R.Rows.held c.args.rows.now).maps in
    let names = c.args.names.now.items in
    let may_not : may_read_object w c.args.programmer c.args.x ≡ false = search rules in
    sym (ap (λ b. take 200 (names ++ (if b then property_names_of w c.args.x else []))) may_not ∙ ap (take 200) (append-nil names) ∙ take_all 200 names c.requires.room)
