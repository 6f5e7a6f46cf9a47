use Rattle.std.proofs.Common.{◌≡◌, drop}
use Rattle.moo_batch.proofs.InTurn.{HaveStepped}
use Rattle.moo_batch.proofs.granting.run_petitioned_calls.Given as goal

-- the calls so far are done
abbrev pub invariant-loop-held : goal.invariant-loop-held
invariant-loop-held g l = record {
  stepped : HaveStepped (g.R.Rows.held l.fn.rows) l.wizard l.helds l.place (g.R.Rows.held l.rows) (drop l.held-index l.helds);
  place : l.place ≡ l.held-index;
}
