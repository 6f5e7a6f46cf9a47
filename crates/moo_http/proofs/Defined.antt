-- What a World that works answers, beside the defined answer.
use Rattle.moo_http.proofs.Words.{◌≡◌, ◌≢◌, inl, inr, refl, ap, ◌∙◌, Batch, judge, left_by, Moment, Place, Works, state_at, state_of_moment, VerdictLeads, RunsAt, AsksAt, Asked, Refused, Calls, Run, Ask, RequestOutcome, response_of, MayAnswer, answer}
use Rattle.moo_world.specs.Judge as model
use Rattle.moo_text.specs.declared.reply.Answer.{Answer}
use Rattle.moo_text.specs.declared.reply.Answer.TheVariants as answered
use Rattle.moo_http_request.specs.declared.asked.Asked.TheVariants.{Each, Question}
use Rattle.moo_http_response.specs.Outcomes.{outcome_of}
use Rattle.moo_http_response.specs.declared.outcome.RequestOutcome.TheVariants as outcome

leaves : (m : Moment) (batch : Batch) (v : model.Verdict) (to : Place) → judge (state_of_moment m) batch ≡ v → VerdictLeads m batch v to → state_at to ≡ left_by (state_of_moment m) v
leaves m batch (model.Accepted answers end) to is (next, leads, left) =
    let there : state_of_moment next ≡ left_by (state_of_moment m) (model.Accepted answers end) = leads.state ∙ ap (left_by (state_of_moment m)) is in
    elim left [ inl e ↦ ap state_at e ∙ there | inr e ↦ ap state_at e ∙ there ]
leaves m batch (model.Refused call code) to is left = ap state_at left
leaves m batch (model.NoRoom call) to is left = ap state_at left
leaves m batch (model.Stale seq) to is left = ap state_at left

-- the answer is the defined one, and so is the next state
abbrev pub IsDefined : Moment → Asked → RequestOutcome → Place → Type 0
IsDefined m asked o to = (o ≡ (answer (state_of_moment m) asked).0) × (state_at to ≡ (answer (state_of_moment m) asked).1)

run_defined : (m : Moment) (batch : Batch) (a : Answer) (o : RequestOutcome) (to : Place) → RunsAt (Works m) batch a to → o ≡ outcome_of a → (response_of o).status ≢ 503 → IsDefined m (Calls Run batch) o to
run_defined m batch (answered.Replied reply) o to runs is other = elim runs [
  | inl none ↦ absurd (other (ap (λ x. (response_of x).status) (is ∙ ap outcome.Replied none.0)))
  | inr one ↦ (is ∙ ap outcome.Replied one.0, leaves m batch (judge (state_of_moment m) batch) to refl one.1)
]
run_defined m batch answered.Fault o to runs is other = absurd (other (ap (λ x. (response_of x).status) is))
run_defined m batch answered.Closed o to runs is other = absurd runs
run_defined m batch (answered.Malformed number) o to runs is other = absurd runs
run_defined m batch answered.Truncated o to runs is other = absurd runs

ask_defined : (m : Moment) (batch : Batch) (a : Answer) (o : RequestOutcome) (to : Place) → AsksAt (Works m) batch a to → o ≡ outcome_of a → (response_of o).status ≢ 503 → IsDefined m (Calls Ask batch) o to
ask_defined m batch a o to ((reply, replied, asks), same) is other = elim asks [
  | inl none ↦ absurd (other (ap (λ x. (response_of x).status) (is ∙ ap outcome_of (replied ∙ ap answered.Replied none.0))))
  | inr one ↦ (is ∙ ap outcome_of (replied ∙ ap answered.Replied one), ap state_at same)
]

pub defined : (m : Moment) (asked : Asked) (o : RequestOutcome) (to : Place) → MayAnswer (Works m) asked o to → (response_of o).status ≢ 503 → IsDefined m asked o to
defined m asked o to (inr none) other = absurd (other (ap (λ x. (response_of x).status) none.1))
defined m (Refused refusal) o to (inl comes) other = (comes.0, ap state_at comes.1)
defined m (Calls Run batch) o to (inl comes) other = run_defined m batch comes.0 o to comes.1 comes.2 other
defined m (Calls Ask batch) o to (inl comes) other = ask_defined m batch comes.0 o to comes.1 comes.2 other
defined m (Each each) o to (inl comes) other = (comes.0, ap state_at comes.1)
defined m (Question question) o to (inl comes) other = (comes.0, ap state_at comes.1)
