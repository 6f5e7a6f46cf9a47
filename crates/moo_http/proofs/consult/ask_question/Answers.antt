use Rattle.moo_http.proofs.Consulting.{told_by_rows, told_closed}
use Rattle.moo_http.proofs.consult.ask_question.Goals as goal

pub ask_rows-requires : goal.ask_rows-requires
ask_rows-requires g c = c.in-Some.ensures.rows.1

pub returns-in-Some : goal.returns-in-Some
returns-in-Some g c place at =
    told_by_rows g.S.Store c.args.world.now c.args.question c.ask_rows.result c.in-Some.ensures.rows.2 (rw c.in-Some.ensures.rows.0 at c.ask_rows.ensures) place at

pub returns-in-None : goal.returns-in-None
returns-in-None g c place at = told_closed g.S.Store c.args.world.now c.args.question c.in-None.ensures.failed place at
