use Rattle.moo_run_laws.{specs.FileRuns.{GoesOnFrom}, proofs.LawLemmas.{takes_up, goes_by}}
use Rattle.moo_run_laws.proofs.law.runs_lead_on.Goals as goal

pub returns : goal.returns
returns g c = record {
  follows = λ first next (over, then, found). record { goes = goes_by first next.image (GoesOnFrom next) (λ t holds. (holds, takes_up next next.ends then t holds)) first.ends over found };
}
