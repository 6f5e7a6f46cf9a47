use Rattle.moo_calls_properties.proofs.slots.may_write_slot.Goals as goal

pub returns : goal.returns
returns g c = c.may_write_slot.ensures c.args.found.definer
