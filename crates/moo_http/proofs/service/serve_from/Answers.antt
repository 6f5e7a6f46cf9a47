use Rattle.moo_http.{proofs.Words.{refl}, specs.declared.service.ServiceFault.TheVariants.{OutOfMemory}, proofs.Connections.{fails_early, says_all}, proofs.Going.{moves_as, moves_none}}
use Rattle.std.proofs.KnownBytes.{Appends-nil}
use Rattle.moo_http.proofs.service.serve_from.Goals as goal

-- memory for the routes is refused
pub returns-in_err-routes-clause-serves : goal.returns-in_err-routes-clause-serves
returns-in_err-routes-clause-serves g c =
    moves_none (λ from at. fails_early _ _ c.args.duty.port c.args.duty.count c.from_residual.result OutOfMemory _ _ (refl, refl) c.from_residual.ensures.1 (λ e. cc) (0, Appends-nil _))

-- the first line can't be written
pub returns-in_err-say_listening-clause-serves : goal.returns-in_err-say_listening-clause-serves
returns-in_err-say_listening-clause-serves g c =
    let told = c.from_residual-in_err-say_listening in
    let err = c.in_err-say_listening in
    moves_none (λ from at. fails_early _ _ c.args.duty.port c.args.duty.count told.result err.field-0.0 _ _ (refl, refl) told.ensures.1 err.ensures.fault err.ensures.err)

pub returns-clause-serves : goal.returns-clause-serves
returns-clause-serves g c =
    let served = c.serve_on-served in
    let say = c.say_served in
    moves_as served.ensures.serves
    (λ from to it. says_all _ _ c.args.duty.port c.args.duty.count say.result served.result.answered served.result.failed _ (g.W.Write.contents c.say_listening.new.output) _ served.ensures.count it
    c.in_ok-say_listening.ensures.ok say.ensures.ok say.ensures.err say.ensures.fault)
