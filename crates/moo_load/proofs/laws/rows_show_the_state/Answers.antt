use Rattle.moo_load.{proofs.Words.{state_of}, proofs.Shown.Good.{good_rows, same_state, same_dump}}
use Rattle.moo_load.proofs.laws.rows_show_the_state.Goals as goal

pub returns-clause-good : goal.returns-clause-good
returns-clause-good c s m held numbers rows = good_rows s held.formed m rows numbers

pub returns-clause-same : goal.returns-clause-same
returns-clause-same c s m held numbers rows = same_state s held.formed m rows

pub returns-clause-dump : goal.returns-clause-dump
returns-clause-dump c s m held numbers rows = same_dump (state_of m) s (same_state s held.formed m rows)
