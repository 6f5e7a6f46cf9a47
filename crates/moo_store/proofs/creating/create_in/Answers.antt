use Rattle.moo_store.proofs.creating.create_in.Goals as goal

pub load_in-requires-clause-good : goal.load_in-requires-clause-good
load_in-requires-clause-good g c = c.good_opening.ensures c.in-Ok.rows.maps c.in-Ok.ensures

-- what is refused at once comes back as it is
