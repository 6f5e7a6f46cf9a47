use Rattle.moo_run_laws.proofs.TwiceLemmas.{runs_twice}
use Rattle.moo_run_laws.proofs.again.run_and_run_again.Goals as goal

pub returns : goal.returns
returns g c = record { again = runs_twice _ _ c.runs_lead_on.ensures.follows _ c.run_to_end-next_left.ensures.closed _ c.run_to_end-left.ensures.closed }
