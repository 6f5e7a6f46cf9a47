use Rattle.moo_cells.proofs.CellsLemmas.{one_good}
use Rattle.moo_cells.proofs.in_turn.read_in_turn.Goals as goal

pub returns-in-Ok-None-clause-shown : goal.returns-in-Ok-None-clause-shown
returns-in-Ok-None-clause-shown g c clean = rw c.in-Some.is at (c.in_ok-taken.ensures.shown clean)

pub returns-in-Ok-None-clause-limit : goal.returns-in-Ok-None-clause-limit
returns-in-Ok-None-clause-limit g c = rw c.in-Some.is at c.in_ok-taken.ensures.limit

pub returns-in-Ok-None-clause-one : goal.returns-in-Ok-None-clause-one
returns-in-Ok-None-clause-one g c clean tables m was is shown good =
    let shows = rw c.in-Some.is at (c.in_ok-taken.ensures.shown clean) in
    let within = rw c.in-Some.is at c.in_ok-taken.ensures.within in
    one_good tables c.in-Some.rows.maps m (shows tables was is) within shown good
