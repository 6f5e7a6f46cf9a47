use Rattle.moo_desk.proofs.Ledgers.{keeps_joined}
use Rattle.moo_desk.proofs.desk.Desk.listen.Goals as goal

pub returns-clause-all : goal.returns-clause-all
returns-clause-all g c =
    keeps_joined _ _ _ c.ask_if_due.ensures.all c.sweep.ensures.all
