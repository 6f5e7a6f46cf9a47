use Rattle.std.{proofs.Common.{false, inr, refl, subst, ◌∙◌, w32}, proofs.lemmas.Int.{to_z-of_z}}
use Rattle.moo_desk.specs.{declared.gate.TheConstants.{NEWS}, Calls.{WatchesAnew}}
use Rattle.moo_desk.proofs.sockets.SocketGate.has_to_wait.Goals as goal

pub returns-then-self-clause-waits : goal.returns-then-self-clause-waits
returns-then-self-clause-waits g c is = (
  c.if-self.true,
  subst (λ did. WatchesAnew g.S.Sockets.does (g.S.Sockets.listener c.args.self.now.sockets) NEWS false did c.args.self.now.sockets c.watch_anew.new.sockets) is
      (subst (λ n. WatchesAnew g.S.Sockets.does n NEWS false c.watch_anew.result c.args.self.now.sockets c.watch_anew.new.sockets)
      (to_z-of_z w32 c.listener_descriptor-listener.result (record { sfits = c.listener_descriptor-listener.type_inv }) ∙ c.listener_descriptor-listener.ensures) (c.watch_anew.ensures false (refl, refl))),
)

pub returns-then-self-clause-asks : goal.returns-then-self-clause-asks
returns-then-self-clause-asks g c is = inr (
  c.if-self.true,
  subst (λ did. WatchesAnew g.S.Sockets.does (g.S.Sockets.listener c.args.self.now.sockets) NEWS false did c.args.self.now.sockets c.watch_anew.new.sockets) is
      (subst (λ n. WatchesAnew g.S.Sockets.does n NEWS false c.watch_anew.result c.args.self.now.sockets c.watch_anew.new.sockets)
      (to_z-of_z w32 c.listener_descriptor-listener.result (record { sfits = c.listener_descriptor-listener.type_inv }) ∙ c.listener_descriptor-listener.ensures) (c.watch_anew.ensures false (refl, refl))),
)
