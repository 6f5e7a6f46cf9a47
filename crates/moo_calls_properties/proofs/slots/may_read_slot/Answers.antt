use Rattle.moo_calls_properties.proofs.slots.may_read_slot.Goals as goal

pub returns : goal.returns
returns g c = c.may_read_slot.ensures c.args.found.definer
