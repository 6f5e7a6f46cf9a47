use Rattle.std.proofs.Common.{refl, ◌∙◌}
use Rattle.moo_desk.proofs.Ledgers.{keeps_same, keeps_joined, keeps_thrice}
use Rattle.moo_desk.proofs.desk.Desk.send_out.Goals as goal

pub loop-init : goal.loop-init
loop-init g c =
    (keeps_same _ _ refl, refl)

pub returns-then-is_empty-clause-all : goal.returns-then-is_empty-clause-all
returns-then-is_empty-clause-all g c =
    keeps_thrice _ _ _ _ c.loop.invariant.0 c.listen.ensures.all c.send_all-has_sent.ensures

pub loop-preserved : goal.loop-preserved
loop-preserved g c =
    (keeps_thrice _ _ _ _ c.loop.invariant.0 c.listen.ensures.all (keeps_joined _ _ _ c.send_all-has_sent.ensures c.pause_unless.ensures.all), c.pause_unless.ensures.gate ∙ c.listen.ensures.gate ∙ c.loop.invariant.1)

pub returns-clause-all : goal.returns-clause-all
returns-clause-all g c =
    keeps_joined _ _ _ c.loop.invariant.0 c.give_up_all.ensures.all
