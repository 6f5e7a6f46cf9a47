use Rattle.moo_props.{proofs.Words.{arith, slot_seen}, proofs.NameClashes.{definer_above, definer_under}}
use Rattle.moo_props.proofs.clashing.clashes.Goals as goal

pub returns-in-Some : goal.returns-in-Some
returns-in-Some g c =
    let found = c.in-Some.found in
    definer_above (g.R.Rows.held c.args.rows.now).maps c.requires c.args.x c.args.name.now (slot_seen found.definer found.slot.now) c.in-Some.ensures.slot

pub returns-in-None : goal.returns-in-None
returns-in-None g c = definer_under (g.R.Rows.held c.args.rows.now).maps c.requires c.args.x c.args.name.now c.first_to_define_under.result c.in-None.ensures.slot c.first_to_define_under.ensures
