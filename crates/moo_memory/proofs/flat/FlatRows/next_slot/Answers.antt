use Rattle.moo_memory.proofs.flat.FlatRows.next_slot.Goals as goal

pub returns : goal.returns
returns c = rw (← c.self.view_is) c.next.ensures
