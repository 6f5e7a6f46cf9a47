use Rattle.moo_memory.proofs.flat.FlatRows.next_verb.Goals as goal

pub returns : goal.returns
returns c = rw (← c.self.view_is) c.next.ensures
