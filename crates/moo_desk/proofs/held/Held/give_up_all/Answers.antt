use Rattle.std.proofs.Common.{refl, ap, length, length-append, arith, ◌∷◌, []}
use Rattle.moo_desk.{proofs.Onward.{later_kept}, proofs.Ledgers.{keeps_same, keeps_joined, keeps_last}}
use Rattle.moo_desk.proofs.held.Held.give_up_all.Goals as goal

pub loop-last-init : goal.loop-last-init
loop-last-init g c =
    keeps_same _ _ refl

pub loop-last-smaller : goal.loop-last-smaller
loop-last-smaller g c =
    omega (arith, ap length c.in-Some.ensures.items, length-append c.pop.new.self.items (c.in-Some.last ∷ []), ap (λ v. length v.items) c.note_loss.ensures.same.0)

pub loop-last-preserved : goal.loop-last-preserved
loop-last-preserved g c =
    keeps_joined _ _ _ c.loop-last.invariant
    (keeps_last _ _ c.pop.new.self.items c.in-Some.last c.give_up.new.self c.in-Some.ensures.items
    (later_kept g.W.Write g.W.Outward.peer c.in-Some.last c.give_up.new.self c.give_up.ensures.same.0 c.give_up.ensures.same.1 c.give_up.ensures.stage)
    (ap (λ v. v.items) c.note_loss.ensures.same.1) (ap (λ v. v.items) c.note_loss.ensures.same.0) (c.note_loss.ensures.ends c.give_up.ensures.over))
