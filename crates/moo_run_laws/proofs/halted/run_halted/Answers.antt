use Rattle.moo_run_laws.proofs.TwiceLemmas.{halts_before}
use Rattle.moo_run_laws.proofs.halted.run_halted.Goals as goal

pub returns : goal.returns
returns g c = record {
  halted = halts_before _ _ _ _ _ c.halting-session.result (c.halting-session.ensures.host, c.halting-session.ensures.input, c.halting-session.ensures.output) c.run_and_run_again-left.ensures.again;
}
