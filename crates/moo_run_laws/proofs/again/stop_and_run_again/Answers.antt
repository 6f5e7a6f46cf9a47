use Rattle.moo_run_laws.proofs.TwiceLemmas.{stops_and_runs}
use Rattle.moo_run_laws.proofs.again.stop_and_run_again.Goals as goal

pub returns : goal.returns
returns g c = record { again = stops_and_runs _ _ c.runs_lead_on.ensures.follows _ c.run_to_end-next_left.ensures.closed _ (λ closed. c.run_words-ends.ensures.over) }
