-- What is answered at a state, and what a World that is asked answers and where that leads.
use Rattle.std.specs.Prelude.{◌≡◌, ◌⊎◌, ⊤, if◌then◌else◌}
use Rattle.moo_text.specs.{declared.reply.Answer.{Answer}, declared.reply.Reply.TheVariants.{Stale}}
use Rattle.moo_world.specs.Judge.{State, judge, is_due}
use Rattle.moo_store.specs.{Answered.{reply_of, answer_of, answers_alone, state_behind}, Moves.{RunsAt, AsksAt}, Moment.{state_of_moment}}
use Rattle.moo_store.specs.Place.{Place, Works}
use Rattle.moo_http_request.specs.{declared.asked.Asked.{Asked}, declared.asked.Asked.TheVariants.{Refused, Calls, Each, Question}}
use Rattle.moo_http_request.specs.{declared.each.Each.{Each as Apart}, declared.asked.Mode.TheVariants.{Run, Ask}}
use Rattle.moo_http_response.specs.declared.outcome.RequestOutcome.{RequestOutcome}
use Rattle.moo_http_response.specs.declared.outcome.RequestOutcome.TheVariants as outcome
use Rattle.moo_http_response.specs.{Outcomes.{outcome_of}, Told.{told_of, TellingTakesMemory}}

-- what comes of calls that are asked each alone: each answer, if the present number is the one that they are meant for
abbrev pub each_outcome : Apart → State → RequestOutcome
each_outcome each s = if is_due each.at s.seq then outcome.Each (answers_alone s each.batches) s.seq else outcome.Replied (Stale s.seq)

-- what comes of what is asked at a state, and the state that it leaves
abbrev pub answer : State → Asked → RequestOutcome × State
answer s (Refused refusal) = (outcome.Refused refusal, s)
answer s (Calls Run batch) = (outcome.Replied (reply_of (judge s batch)), state_behind s batch)
answer s (Calls Ask batch) = (outcome.Replied (answer_of s (judge s batch)), s)
answer s (Each each) = (each_outcome each s, s)
answer s (Question question) = (outcome.Told (told_of question s), s)

-- ---- a World at some place

-- a World that works tells what holds at its state; one that failed is closed
abbrev pub tell : (State → RequestOutcome) → Place → RequestOutcome
tell told (Works m) = told (state_of_moment m)
tell told place = outcome.Closed

-- What comes of what is asked of a World at this place, and to which place that leads. A batch is run or asked as that of a text.
abbrev pub Comes : Place → Asked → RequestOutcome → Place → Type 0
Comes from (Refused refusal) o to = (o ≡ outcome.Refused refusal) × (to ≡ from)
Comes from (Calls Run batch) o to = (a : Answer) × RunsAt from batch a to × (o ≡ outcome_of a)
Comes from (Calls Ask batch) o to = (a : Answer) × AsksAt from batch a to × (o ≡ outcome_of a)
Comes from (Each each) o to = (o ≡ tell (each_outcome each) from) × (to ≡ from)
Comes from (Question question) o to = (o ≡ tell (λ s. outcome.Told (told_of question s)) from) × (to ≡ from)

-- the World takes memory for what it hands out
abbrev pub TakesMemory : Asked → Type 0
TakesMemory (Calls Run batch) = ⊤
TakesMemory (Each each) = ⊤
TakesMemory (Question question) = TellingTakesMemory question
TakesMemory asked = ⊥

-- What may come of what is asked of a World at this place, and where that leads: what holds there; or memory for what is handed out is
-- refused, and nothing changes.
abbrev pub MayAnswer : Place → Asked → RequestOutcome → Place → Type 0
MayAnswer from asked o to = Comes from asked o to ⊎ (TakesMemory asked × (o ≡ outcome.NoMemory) × (to ≡ from))
