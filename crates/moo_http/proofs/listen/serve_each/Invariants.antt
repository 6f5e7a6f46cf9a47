use Rattle.moo_http.proofs.Turns.{Passed}
use Rattle.moo_http.proofs.listen.serve_each.Given as goal

abbrev pub invariant-loop-turn : goal.invariant-loop-turn
invariant-loop-turn g l =
    Passed g.A.Arrivals g.A.Reader.Read g.A.Reader.Incoming.fails g.A.Writer.Write g.S.Store l.fn.world l.world l.fn.arrivals l.arrivals l.served.answered l.served.failed l.turn
