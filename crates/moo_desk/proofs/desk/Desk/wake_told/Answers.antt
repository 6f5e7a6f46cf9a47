use Rattle.std.proofs.Common.{refl}
use Rattle.moo_desk.proofs.Ledgers.{keeps_same, keeps_joined}
use Rattle.moo_desk.proofs.desk.Desk.wake_told.Goals as goal

pub loop-mark-init : goal.loop-mark-init
loop-mark-init g c =
    (keeps_same _ _ refl, refl)

pub loop-mark-preserved : goal.loop-mark-preserved
loop-mark-preserved g c =
    (keeps_joined _ _ _ c.loop-mark.invariant.0 c.wake_at.ensures.all, refl)
