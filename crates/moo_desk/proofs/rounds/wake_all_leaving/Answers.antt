use Rattle.std.{proofs.Common.{arith}, specs.Prelude.{⊤}}
use Rattle.moo_desk.{specs.Rounds.{IsAnswerWokenFor}, proofs.Onward.{each_then, each_all}}
use Rattle.moo_desk.proofs.rounds.wake_all_leaving.Goals as goal

pub loop-connection-preserved : goal.loop-connection-preserved
loop-connection-preserved g c =
    each_then (IsAnswerWokenFor (λ _. ⊤)) c.loop-connection.connection-index c.args.leaving.now c.loop-connection.connection-items c.connection-item.result c.wake.new.self (omega (arith, c.loop-connection-test.true, c.loop-connection.auto.connection-items)) c.loop-connection.invariant c.wake.ensures

pub returns : goal.returns
returns g c = each_all (IsAnswerWokenFor (λ _. ⊤)) c.loop-connection.connection-index c.args.leaving.now c.loop-connection.connection-items (omega (arith, c.loop-connection-test.false, c.loop-connection.auto.connection-items)) c.loop-connection.invariant
