use Rattle.std.proofs.Common.{◌≡◌, length, drop}
use Rattle.moo_batch.{specs.Outcomes.{state_in}, proofs.Running.{HaveRunSoFar}, proofs.Before.{HaveLed}}
use Rattle.moo_batch.proofs.judging.run_calls.Given as goal

-- the calls so far have given the answers, one each
abbrev pub invariant-loop-call : goal.invariant-loop-call
invariant-loop-call g l =
    HaveRunSoFar (g.R.Rows.held l.fn.rows) l.programmer l.calls l.answers.items (g.R.Rows.held l.rows) (drop l.call-index l.calls)
    × (length l.answers.items ≡ l.call-index)
    × HaveLed (state_in (g.R.Rows.held l.fn.rows)) l.programmer l.calls (state_in (g.R.Rows.held l.rows)) (drop l.call-index l.calls) l.call-index
