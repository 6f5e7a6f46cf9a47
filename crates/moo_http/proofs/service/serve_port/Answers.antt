use Rattle.moo_http.{proofs.Words.{refl}, proofs.Going.{moves_as, moves_none}, proofs.Turns.{serves_on}}
use Rattle.moo_http.proofs.service.serve_port.Goals as goal

-- the port can't be bound
pub returns-in_default : goal.returns-in_default
returns-in_default g c = record { serves = moves_none (λ from at. (refl, c.in_default.ensures, refl)) }

pub returns : goal.returns
returns g c = record {
  serves =
      let source = g.P.Source in
      let done = c.serve_from-done in
      moves_as done.ensures.serves
      (λ from to it. serves_on source.Arrivals source.Reader.Read source.Reader.Incoming.fails source.Writer.Write g.P.Ports c.args.ports.now c.listen.new.self c.close.new.self done.result c.args.duty.port c.args.duty.count
      c.in-Some.source from done.new.arrivals to _ _ c.in-Some.ensures c.close.ensures done.ensures.fault it);
}
