use Rattle.moo_http.{proofs.Words.{inr, refl, ◌≡◌, ap, rules, true, false, ◌∙◌, state_of_moment}, specs.Settled.{lost_by}, proofs.Apart.{each_stale, each_due}, proofs.Consulting.{at_moment}, proofs.SeenAsked.{seen_lost}}
use Rattle.moo_reasons.specs.Seen.{seen_by}
use Rattle.moo_world.specs.Judge.{is_due}
use Rattle.moo_store.specs.Answered.{answers_alone}
use Rattle.moo_http.proofs.consult.ask_each_at.Goals as goal

pub returns-then-not-is_due-clause-comes : goal.returns-then-not-is_due-clause-comes
returns-then-not-is_due-clause-comes g c m at same =
    let other : is_due c.args.each.now.at c.args.seq ≡ false = search rules in
    each_stale c.args.each.now m c.args.seq other same

pub returns-in-Ok-clause-comes : goal.returns-in-Ok-clause-comes
returns-in-Ok-clause-comes g c m at same =
    let due : is_due c.args.each.now.at c.args.seq ≡ true = search rules in
    each_due c.args.each.now m c.args.seq c.from_vec.result due same
    (c.from_vec.ensures ∙ c.in-Ok.ensures.replies at.failed ∙ ap (λ s. answers_alone s c.items.result.now) (at_moment g.S.Store c.args.world.now m at) ∙ ap (answers_alone (state_of_moment m)) c.items.ensures)

pub returns-in-Err-clause-comes : goal.returns-in-Err-clause-comes
returns-in-Err-clause-comes g c m at same =
    rw c.outcome_of_fault.ensures (inr (tt, ap lost_by (c.in-Err.ensures.replies at.failed), refl))

pub returns-in-Ok-clause-seen : goal.returns-in-Ok-clause-seen
returns-in-Ok-clause-seen g c = rw c.from_vec.ensures (rw c.items.ensures at c.in-Ok.ensures.seen)

pub returns-in-Err-clause-seen : goal.returns-in-Err-clause-seen
returns-in-Err-clause-seen g c = seen_lost c.args.world.now.rows.maps (seen_by c.args.whys.now) (seen_by c.ask_each.new.witness) c.args.each.now c.in-Err.fault c.outcome_of_fault.result c.outcome_of_fault.ensures
