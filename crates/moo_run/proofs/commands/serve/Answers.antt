use Rattle.moo_run.{proofs.Words.{◌≡◌, inl, inr, ℕ, List, Option, refl, Ok, Err, Moment, Place, Works, service_failure, StopsServing, Failure}, proofs.Tasks.{moved, ends_map}}
use Rattle.moo_run.proofs.commands.serve.Goals as goal
use Rattle.moo_http.{proofs.Leading.{leads_start, serves_lead_to}, specs.Turns.{Attendance, ServesOn, attended_between}, specs.declared.service.ServiceFault.{ServiceFault}}
use Rattle.moo_http.specs.declared.service.ServiceFault.TheVariants as service_fault

-- what stops the service, by its fault
stopped : (ports : Attendance) (port count : ℕ) (m : Moment) (end : Place) (fault : ServiceFault) (failure : Failure) (old new : Option (List ℕ)) → failure ≡ service_failure fault
    → ServesOn ports (Err fault) port count (Works m) end old new → StopsServing ports port count m end failure old new
stopped ports port count m end service_fault.Port failure old new is (same, refused, unwritten) = inl (is, same, refused, unwritten)
stopped ports port count m end service_fault.Write failure old new is (inl ((same, idle), front)) = inr (inl (same, idle, (inl is, front.0, front.1)))
stopped ports port count m end service_fault.Write failure old new is (inr (text, all, front)) = inr (inr (text, all, (inl is, front.0, front.1)))
stopped ports port count m end service_fault.OutOfMemory failure old new is (inl ((same, idle), front)) = inr (inl (same, idle, (inr is, front.0, front.1)))
stopped ports port count m end service_fault.OutOfMemory failure old new is (inr (text, all, front)) = inr (inr (text, all, (inr is, front.0, front.1)))

pub returns-in-Ok-clause-serves : goal.returns-in-Ok-clause-serves
returns-in-Ok-clause-serves g c m stands =
    ends_map g.B.Store c.args.world.now c.serve_port.new.world m _ _ (λ end it. (it.0, it.1, it.2, refl)) (moved g.B.Store c.args.world.now c.serve_port.new.world m _ (λ to it. serves_lead_to m g.S.Host.Source.Arrivals g.S.Host.Source.Reader.Read g.S.Host.Source.Reader.Incoming.fails g.S.Host.Source.Writer.Write g.S.Host.Ports c.args.session.now.host c.serve_port.new.ports (Ok tt) c.args.service.port c.args.service.count (Works m) to (g.S.Output.Write.contents c.args.session.now.output) (g.S.Output.Write.contents c.serve_port.new.output) it (leads_start m)) stands c.in-Ok.ensures.serves.moves)

pub returns-in-Err-clause-serves : goal.returns-in-Err-clause-serves
returns-in-Err-clause-serves g c m stands =
    let between = attended_between g.S.Host.Source.Arrivals g.S.Host.Source.Reader.Read g.S.Host.Source.Reader.Incoming.fails g.S.Host.Source.Writer.Write g.S.Host.Ports c.args.session.now.host c.serve_port.new.ports in
    ends_map g.B.Store c.args.world.now c.serve_port.new.world m _ _
    (λ end it. stopped between c.args.service.port c.args.service.count m end c.in-Err.fault c.from.result (g.S.Output.Write.contents c.args.session.now.output) (g.S.Output.Write.contents c.serve_port.new.output) c.from.ensures it)
    (moved g.B.Store c.args.world.now c.serve_port.new.world m _ (λ to it. serves_lead_to m g.S.Host.Source.Arrivals g.S.Host.Source.Reader.Read g.S.Host.Source.Reader.Incoming.fails g.S.Host.Source.Writer.Write g.S.Host.Ports c.args.session.now.host c.serve_port.new.ports (Err c.in-Err.fault) c.args.service.port c.args.service.count (Works m) to (g.S.Output.Write.contents c.args.session.now.output) (g.S.Output.Write.contents c.serve_port.new.output) it (leads_start m)) stands c.in-Err.ensures.serves.moves)
