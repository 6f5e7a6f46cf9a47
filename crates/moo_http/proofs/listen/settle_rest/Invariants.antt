use Rattle.moo_http.proofs.Words.{◌≡◌, ◌+◌, ℕ, TellsLosses}
use Rattle.moo_http.proofs.listen.settle_rest.Given as goal

abbrev pub invariant-loop : goal.invariant-loop
invariant-loop g l = record {
  asked : ℕ;
  settled : TellsLosses g.A.Arrivals.loses asked l.fn.arrivals l.fn.served.answered l.fn.served.failed l.arrivals l.served.answered l.served.failed;
  -- each that was asked for was told of, and counts as answered no more
  left : l.served.answered + l.counter ≡ l.fn.served.answered;
}
