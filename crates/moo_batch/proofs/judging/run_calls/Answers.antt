use Rattle.std.{proofs.Common.{◌≡◌, ◌+◌, ◌-◌, [], ◌∷◌, ◌++◌, length, drop, sym, ap, ◌∙◌, subst, rules, arith}, proofs.lemmas.Grind.{common_steps}}
use Rattle.moo_rows.specs.Maps.{Base}
use Rattle.moo_world.specs.Outcomes.{in_petition, of_itself}
use Rattle.std.proofs.lemmas.Option.{none-some}
use Rattle.moo_batch.{specs.Outcomes.{state_in}, specs.Facts.{state_before_call}}
use Rattle.moo_batch.proofs.Before.{HaveLed, led-started, led-one, led-here}
use Rattle.moo_batch.proofs.Running.{HaveRunSoFar, run-started, run-one_more, run-ended, run-kept, run-failed, run-full}
use Rattle.moo_batch.proofs.judging.run_calls.Goals as goal

pub loop-call-init : goal.loop-call-init
loop-call-init g c =
    let before = g.R.Rows.held c.args.rows.now in
    let none : c.new-answers.result.items ≡ [] = search rules in (
      subst (λ answers. HaveRunSoFar before c.args.programmer c.args.calls.now answers before c.args.calls.now) (sym none) (run-started before c.args.programmer c.args.calls.now c.requires.good),
      ap length none,
      led-started c.args.programmer c.args.calls.now (state_in before),
    )

pub returns-in-Err-Moo-clause-comes : goal.returns-in-Err-Moo-clause-comes
returns-in-Err-Moo-clause-comes g c =
    let comes = rw c.in-Err-Moo.field-0-is at c.in-Err-Moo.ensures.reaches in
    rw c.in-Err-Moo.field-0-is (run-failed c.call-item.result (drop (c.loop-call.call-index + 1) c.args.calls.now) (of_itself c.in-Err-Moo.reason) c.len.result (omega arith) (grind (arith, common_steps)) c.loop-call.invariant.0 comes)

pub returns-in-Err-Held-clause-comes : goal.returns-in-Err-Held-clause-comes
returns-in-Err-Held-clause-comes g c =
    let comes = rw c.in-Err-Held.field-0-is at c.in-Err-Held.ensures.reaches in
    rw c.in-Err-Held.field-0-is (run-failed c.call-item.result (drop (c.loop-call.call-index + 1) c.args.calls.now) (in_petition c.in-Err-Held.place (of_itself c.in-Err-Held.reason)) c.len.result (omega arith) (grind (arith, common_steps)) c.loop-call.invariant.0 comes)

pub returns-in-Err-Full-clause-comes : goal.returns-in-Err-Full-clause-comes
returns-in-Err-Full-clause-comes g c =
    run-full c.call-item.result (drop (c.loop-call.call-index + 1) c.args.calls.now) c.len.result (omega arith) (grind (arith, common_steps)) c.loop-call.invariant.0 (rw c.in-Err-Full.field-0-is at c.in-Err-Full.ensures.reaches)

pub step_on-requires-clause-leave : goal.step_on-requires-clause-leave
step_on-requires-clause-leave g c = ap (λ (b : Base). b.is_spent) c.loop-call.invariant.0.kept.base ∙ c.requires.leave

pub loop-call-preserved : goal.loop-call-preserved
loop-call-preserved g c =
    let pushed : c.push.new.self.items ≡ c.loop-call.answers.items ++ c.in-Ok.answer ∷ [] = search rules in
    let left = drop (c.loop-call.call-index + 1) c.args.calls.now in
    let same : g.R.Rows.held c.spend_on_answer.new.rows ≡ g.R.Rows.held c.step_on.new.rows = c.spend_on_answer.ensures (search rules) in (
      subst (λ now. HaveRunSoFar (g.R.Rows.held c.args.rows.now) c.args.programmer c.args.calls.now c.push.new.self.items now left) (sym same)
          (run-one_more c.call-item.result left c.in-Ok.answer c.push.new.self.items _ pushed (grind (arith, common_steps)) c.loop-call.invariant.0 c.in-Ok.ensures.reaches c.in-Ok.ensures.kept),
      ap length pushed ∙ grind (arith, common_steps),
      subst (λ now. HaveLed (state_in (g.R.Rows.held c.args.rows.now)) c.args.programmer c.args.calls.now (state_in now) left (c.loop-call.call-index + 1)) (sym same)
          (led-one c.call-item.result left c.in-Ok.answer (state_in (g.R.Rows.held c.step_on.new.rows)) (grind (arith, common_steps)) c.loop-call.invariant.2 c.in-Ok.ensures.reaches),
    )

pub returns-clause-comes : goal.returns-clause-comes
returns-clause-comes g c = rw c.from_vec.ensures (run-ended (grind (arith, common_steps)) c.loop-call.invariant.0)

pub returns-clause-kept : goal.returns-clause-kept
returns-clause-kept g c = run-kept (grind (arith, common_steps)) c.loop-call.invariant.0

-- at a check that fails the rows are those after the calls before
pub returns-in-Err-Moo-clause-at : goal.returns-in-Err-Moo-clause-at
returns-in-Err-Moo-clause-at g c =
    let still = rw c.in-Err-Moo.field-0-is at c.in-Err-Moo.ensures.check in
    let place : c.loop-call.call-index ≡ c.len.result + 1 - 1 = search rules in
    λ own. ap state_in still ∙ led-here c.loop-call.invariant.2 ∙ ap (state_before_call (state_in (g.R.Rows.held c.args.rows.now)) c.args.programmer c.args.calls.now) place

pub returns-in-Err-Held-clause-at : goal.returns-in-Err-Held-clause-at
returns-in-Err-Held-clause-at g c = λ own. absurd (none-some _ (sym own))
