use Rattle.moo_run_laws.proofs.LedgerLemmas.{ledger_after, ledger_closed}
use Rattle.moo_run_laws.proofs.ledger.desks_keep_a_ledger.Goals as goal

pub returns-clause-keeps : goal.returns-clause-keeps
returns-clause-keeps g c calls first last runs bound = ledger_after calls first last runs bound

pub returns-clause-closes : goal.returns-clause-closes
returns-clause-closes g c calls first last runs bound = ledger_closed calls first last runs bound
