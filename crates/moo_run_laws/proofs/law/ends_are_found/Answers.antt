use Rattle.moo_run_laws.proofs.TwiceLemmas.{end_found}
use Rattle.moo_run_laws.proofs.law.ends_are_found.Goals as goal

pub returns : goal.returns
returns g c = record { found = λ run next closed clean bytes. end_found run run.ends next closed clean bytes }
