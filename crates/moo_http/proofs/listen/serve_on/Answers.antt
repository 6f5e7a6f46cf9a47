use Rattle.moo_http.{proofs.Words.{sym, ◌∙◌}, proofs.Going.{moves_as}, proofs.Turns.{attended_all, settles_all_sum}}
use Rattle.moo_http.proofs.listen.serve_on.Goals as goal

pub returns-clause-count : goal.returns-clause-count
returns-clause-count g c =
    let rest = c.settle_rest.ensures.tells in
    sym (settles_all_sum g.A.Arrivals.loses rest.0 c.serve_each-served.new.arrivals c.settle_rest.new.arrivals c.serve_each-served.result.answered c.serve_each-served.result.failed
    c.settle_rest.new.served.answered c.settle_rest.new.served.failed rest.1) ∙ c.serve_each-served.ensures.count

pub returns-clause-serves : goal.returns-clause-serves
returns-clause-serves g c =
    let rest = c.settle_rest.ensures.tells in
    let each = c.serve_each-served in
    let now = c.settle_rest.new in
    moves_as each.ensures.serves (λ from to it. (
      attended_all g.A.Arrivals g.A.Reader.Read g.A.Reader.Incoming.fails g.A.Writer.Write rest.0 c.args.arrivals.now from each.new.arrivals now.arrivals to each.result.answered each.result.failed now.served.answered now.served.failed it rest.1,
      c.settle_rest.ensures.none,
    ))
