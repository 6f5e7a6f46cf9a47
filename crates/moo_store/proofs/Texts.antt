-- What comes of a text, by its result, seen as something else; and what answers a text batch by batch.
use Rattle.moo_store.{proofs.Words.{arith, rules, EndsEarly, [], ◌∷◌, items, Next, Turn, Turns, Completes, Halts, ◌≡◌, ◌∙◌, ⊤, ℕ, Bool, true, false, IsTrue, Option, List, Result, Ok, Err, refl, sym, subst, HasCleanDisk, Ghosts, store_of, World, Batch, Answer, TextFault, ◌≢◌, State, judge, answer_of, Reply, answer_to, StoreFault, Closed}, specs.Stopping.{CompletesUntil, EndsAs, AnswersBy}, specs.Moves.{Stands, MovesBy, RunsAt, MayReplyAsked, AsksAt}, specs.declared.course.Course.{Course}, specs.World.{state_of_world}, specs.Moment.{Moment, state_of_moment}, specs.Place.{Place, Works}}
use Rattle.moo_text.{specs.declared.next.Next.TheVariants.{Batch as Whole, End}, specs.declared.reply.Reply.TheVariants.{NoMemory}}
use Rattle.std.specs.Result.{IsOkAnd, IsErrOf}

-- a text that wasn't to stop came to its end
pub to_its_end : {A : Type 0} (step : A → Batch → Answer → A → Type 0) (old new : A) (text before behind : Option (List ℕ)) (stopped : Bool) (b l : ℕ) → EndsAs step false old new text before behind stopped b l → CompletesUntil step false old new text before behind b l
to_its_end step old new text before behind stopped b l it = grind arith

-- Where the one stands as the other before a step, it does so behind it.
module _ {A B : Type 0} (P : A → Batch → Answer → A → Type 0) (Q : B → Batch → Answer → B → Type 0) (As : A → B → Type 0)
    (step : (old new : A) (stand : B) (batch : Batch) (a : Answer) → As old stand → P old batch a new → (next : B) × As new next × Q stand batch a next) where
  turn-follows : (old new : A) (stand : B) (item : Next) (a : Answer) → As old stand → Turn P old item a new → (next : B) × As new next × Turn Q stand item a next
  turn-follows old new stand (Whole batch) a it turn = step old new stand batch a it turn
  turn-follows old new stand End a it turn = absurd turn
  turn-follows old new stand item a it turn = (stand, subst (λ x. As x stand) (sym turn.1) it, (turn.0, refl))

  pub turns-follow : (old new : A) (stand : B) (items : List Next) (answers : List Answer) → As old stand → Turns P old items answers new → (next : B) × As new next × Turns Q stand items answers next
  turns-follow old new stand [] [] it turns = (stand, subst (λ x. As x stand) (sym turns) it, refl)
  turns-follow old new stand (item ∷ items) (a ∷ answers) it turns =
      let one = turn-follows old turns.0 stand item a it turns.1 in
      let rest = turns-follow turns.0 new one.0 items answers one.1 turns.2 in
      (rest.0, rest.1, (one.0, one.2, rest.2))
  turns-follow old new stand items answers it turns = absurd turns

  abbrev completes-follows : (old new : A) (stand : B) (text before behind : Option (List ℕ)) (b l : ℕ) → As old stand → Completes P old new text before behind b l
      → (next : B) × As new next × Completes Q stand next text before behind b l
  completes-follows old new stand text before behind b l it c =
      let all = turns-follow old new stand (items c.given) c.answers it c.turns in
      (all.0, all.1, record { given = c.given; all = c.all; short = c.short; answers = c.answers; turns = all.2; wrote = c.wrote; batches_are = c.batches_are; lost_are = c.lost_are })

  abbrev halts-follows : (old new : A) (stand : B) (text before behind : Option (List ℕ)) (fault : TextFault) → As old stand → Halts P old new text before behind fault
      → (next : B) × As new next × Halts Q stand next text before behind fault
  halts-follows old new stand text before behind fault it h =
      let done = turns-follow old h.mid stand h.done h.answers it h.turns in
      let last = turns-follow h.mid new done.0 h.hand h.last done.1 h.in_hand in
      (last.0, last.1, (let first = done.2 in let then = last.2 in search rules))

  early-follows : (old new : A) (stand : B) (text before behind : Option (List ℕ)) (b l : ℕ) → As old stand → EndsEarly P old new text before behind b l
      → (next : B) × As new next × EndsEarly Q stand next text before behind b l
  early-follows old new stand text before behind b l it e =
      let all = turns-follow old new stand e.done e.answers it e.turns in
      (all.0, all.1, (let turns = all.2 in search rules))

  ends-follow : (stop stopped : Bool) (old new : A) (stand : B) (text before behind : Option (List ℕ)) (b l : ℕ) → As old stand → EndsAs P stop old new text before behind stopped b l
      → (next : B) × As new next × EndsAs Q stop stand next text before behind stopped b l
  ends-follow stop true old new stand text before behind b l at it = let run = early-follows old new stand text before behind b l at it.1 in (run.0, run.1, (it.0, run.2))
  ends-follow stop false old new stand text before behind b l at it = let run = completes-follows old new stand text before behind b l at it.0 in (run.0, run.1, (run.2, it.1))

  pub answers-follow : (stop : Bool) (old new : A) (stand : B) (text before behind : Option (List ℕ)) (r : Result Course TextFault) → As old stand → AnswersBy P stop old new text before behind r
      → (next : B) × As new next × AnswersBy Q stop stand next text before behind r
  answers-follow stop old new stand text before behind (Ok course) at it = ends-follow stop course.stopped old new stand text before behind course.tally.batches course.tally.lost at it
  answers-follow stop old new stand text before behind (Err fault) at it = let run = halts-follows old new stand text before behind fault at it.0 in (run.0, run.1, (run.2, it.1))

-- ---- a World that runs a text

-- each batch moves it
abbrev Moved : {S : Type 0} → Ghosts S → World S → Batch → Answer → World S → Type 0
Moved g old batch a new = MovesBy g old new (λ from to. RunsAt from batch a to)

-- nothing is told
abbrev AnyStep : ⊤ → Batch → Answer → ⊤ → Type 0
AnyStep old batch a new = ⊤

pub text_moves : {S : Type 0} (g : Ghosts S) (stop : Bool) (old new : World S) (text before behind : Option (List ℕ)) (r : Result Course TextFault) → AnswersBy (Moved g) stop old new text before behind r
    → MovesBy g old new (λ from to. AnswersBy RunsAt stop from to text before behind r)
text_moves {S} g stop old new text before behind r it = record {
  clean = (answers-follow (Moved g) AnyStep (λ now _. HasCleanDisk (store_of g now) → HasCleanDisk (store_of g old)) (λ was next any batch a at one. (tt, (λ c. at (one.clean c)), tt)) stop old new tt text before behind r (λ c. c) it).1;
  closed = (answers-follow (Moved g) AnyStep (λ now _. IsTrue old.failed → now ≡ old) (λ was next any batch a at one. (tt, (λ f. one.closed (subst (λ (w : World S). IsTrue w.failed) (sym (at f)) f) ∙ at f), tt)) stop old new tt text before behind r (λ f. refl) it).1;
  goes = λ from at. answers-follow (Moved g) RunsAt (Stands g) (λ was next place batch a stands one. one.goes place stands) stop old new from text before behind r at it;
}

-- ---- asking one batch

replied_at : (m : Moment) (batch : Batch) (r : Result Reply StoreFault) → IsOkAnd r (MayReplyAsked (state_of_moment m) batch) → AsksAt (Works m) batch (answer_to r) (Works m)
replied_at m batch r it = grind arith

-- what asking a batch says of a World, at whatever place it is
pub asked_at : {S : Type 0} (g : Ghosts S) (world : World S) (batch : Batch) (r : Result Reply StoreFault) → (world.failed ≡ false → IsOkAnd r (MayReplyAsked (state_of_world world) batch)) → (IsTrue world.failed → IsErrOf r Closed)
    → (place : Place) → Stands g world place → AsksAt place batch (answer_to r) place
asked_at g world batch r asks closed place at = grind (arith, replied_at)

-- a reply that isn't a lack of memory is as the batch is judged
pub judged_alone : (s : State) (batch : Batch) (reply : Reply) → reply ≢ NoMemory → MayReplyAsked s batch reply → reply ≡ answer_of s (judge s batch)
judged_alone s batch reply other it = grind arith

-- ---- asking a text

-- what the answering of a batch says of one that stands here, and stays as it is
abbrev pub AsksHere : {A : Type 0} → (A → Batch → Answer → A → Type 0) → A → Place → Type 0
AsksHere {A = A} P it place = (batch : Batch) (a : Answer) (new : A) → P it batch a new → (new ≡ it) × AsksAt place batch a place

module _ {A : Type 0} (P : A → Batch → Answer → A → Type 0) (it : A) (place : Place) (asks : AsksHere P it place) where
  -- it is as it was
  abbrev Stays : A → Place → Type 0
  Stays now at = (now ≡ it) × (at ≡ place)

  step : (old new : A) (at : Place) (batch : Batch) (a : Answer) → Stays old at → P old batch a new → (next : Place) × Stays new next × AsksAt at batch a next
  step old new at batch a stays one =
      let asked = asks batch a new (subst (λ x. P x batch a new) stays.0 one) in
      (place, (asked.0, refl), subst (λ x. AsksAt x batch a place) (sym stays.1) asked.1)

  pub asks_all : (stop : Bool) (new : A) (text before behind : Option (List ℕ)) (r : Result Course TextFault) → AnswersBy P stop it new text before behind r → AnswersBy AsksAt stop place place text before behind r
  asks_all stop new text before behind r answers =
      let done = answers-follow P AsksAt Stays step stop it new place text before behind r (refl, refl) answers in
      subst (λ end. AnswersBy AsksAt stop place end text before behind r) done.1.1 done.2
