-- What a batch that is run or asked, and a question, say of a World at whatever place.
use Rattle.moo_http.{proofs.Words.{AdvancesBy, ◌≡◌, ◌⊎◌, inl, inr, refl, ap, subst, arith, true, false, Result, Ok, Err, IsTrue, IfOk, IfErr, Ghosts, Batch, state_of, judge, World, state_of_world, Stands, MovesBy, RunsAt, VerdictLeads, StopsStore, Moment, rows_alone, state_of_moment, Place, Works, Failed, Between, Calls, Ask, RequestOutcome, MayAnswer, HasAdvanced, IsStillOrAdvanced}, specs.Settled.{came_of}}
use Rattle.std.specs.Result.{IsOkAnd}
use Rattle.moo_rows.specs.Maps.{Maps}
use Rattle.moo_world.specs.Judge as model
use Rattle.moo_text.{specs.declared.reply.Reply.{Reply}, specs.declared.reply.Reply.TheVariants.{Accepted, Refused, Full, Stale, NoMemory}}
use Rattle.moo_text.specs.declared.reply.Answer.TheVariants as answered
use Rattle.moo_store.{specs.Answered.{reply_of}, specs.Moves.{FailsRun, MayReplyAsked}, specs.Stopping.{says_accepted}, specs.Text.{answer_to}, specs.declared.fault.StoreFault.{StoreFault}, specs.declared.fault.StoreFault.TheVariants.{Closed}}
use Rattle.moo_http_request.{specs.declared.asked.Asked.TheVariants.{Question as Asks}, specs.declared.question.Question.{Question}}
use Rattle.moo_http_response.specs.Outcomes.{outcome_of}
use Rattle.moo_http_response.specs.Told.{told_of}
use Rattle.moo_http_response.specs.declared.outcome.RequestOutcome.TheVariants as outcome

-- ---- a run of one batch

pub came_as : {S : Type 0} (g : Ghosts S) (was new : World S) (r : Result Reply StoreFault) → IfErr r (FailsRun g was new) → came_of r ≡ outcome_of (answer_to r)
came_as g was new (Ok reply) fails = refl
came_as g was new (Err fault) (inl closed) = rw closed refl
came_as g was new (Err fault) (inr (error, is, why)) = rw is refl

module _ {S : Type 0} (g : Ghosts S) (was new : World S) (batch : Batch) (m : Moment) (works : was.failed ≡ false) (rows : was.rows.maps ≡ m.rows) where
  -- an accepted batch is counted
  verdict_advances : (v : model.Verdict) (to : Place) → VerdictLeads m batch v to → says_accepted (answered.Replied (reply_of v)) ≡ true → Stands g new to → HasAdvanced was new
  verdict_advances (model.Accepted answers end) to (next, leads, inl is) accepted at =
      let there : Stands g new (Works next) = subst (λ p. Stands g new p) is at in
      let counted = ap (λ (x : Maps). x.head.seq) leads.rows.2 in
      let now = ap (λ (x : Maps). x.head.seq) (there.rows there.failed) in
      let before = ap (λ (x : Maps). x.head.seq) rows in
      (works, inr (omega (arith, counted, now, before)))
  verdict_advances (model.Accepted answers end) to (next, leads, inr is) accepted at =
      let there : Stands g new (Failed next) = subst (λ p. Stands g new p) is at in
      (works, inl there.failed)
  verdict_advances (model.Refused call code) to is accepted at = absurd cc
  verdict_advances (model.NoRoom call) to is accepted at = absurd cc
  verdict_advances (model.Stale seq) to is accepted at = absurd cc

  stops_advances : (v : model.Verdict) (to : Place) → StopsStore m batch v to → Stands g new to → HasAdvanced was new
  stops_advances (model.Accepted answers end) to (next, leads, is) at =
      let there : Stands g new (Between m next) = subst (λ p. Stands g new p) is at in
      (works, inl there.failed)
  stops_advances (model.Refused call code) to is at = absurd is
  stops_advances (model.NoRoom call) to is at = absurd is
  stops_advances (model.Stale seq) to is at = absurd is

  by_result : (r : Result Reply StoreFault) (to : Place) → IfOk r (λ reply. says_accepted (answered.Replied reply) ≡ false → new ≡ was) → IfErr r (FailsRun g was new) → RunsAt (Works m) batch (answer_to r) to → Stands g new to
      → (new ≡ was) ⊎ HasAdvanced was new
  by_result (Ok (Accepted seq answers)) to still fails (inl (none, same, run)) at = absurd cc
  by_result (Ok (Accepted seq answers)) to still fails (inr (is, leads)) at = inr (verdict_advances (judge (state_of_moment m) batch) to leads (subst (λ r. says_accepted (answered.Replied r) ≡ true) is refl) at)
  by_result (Ok (Refused call code)) to still fails runs at = inl (still refl)
  by_result (Ok (Full call)) to still fails runs at = inl (still refl)
  by_result (Ok (Stale seq)) to still fails runs at = inl (still refl)
  by_result (Ok NoMemory) to still fails runs at = inl (still refl)
  by_result (Err fault) to still (inl closed) runs at = absurd (rw closed at runs)
  by_result (Err fault) to still (inr (error, is, why)) runs at = inr (stops_advances (judge (state_of_moment m) batch) to (rw is at runs) at)

-- and unless the batch was accepted, or the store failed in it, it is the very World
module _ {S : Type 0} (g : Ghosts S) (was new : World S) (batch : Batch) (r : Result Reply StoreFault) (moves : MovesBy g was new (λ from to. RunsAt from batch (answer_to r) to))
    (still : IfOk r (λ reply. says_accepted (answered.Replied reply) ≡ false → new ≡ was)) (fails : IfErr r (FailsRun g was new)) where
  still_one : IsStillOrAdvanced g was new
  still_one (Works m) at =
      let it = moves.goes (Works m) at in
      by_result g was new batch m at.failed (at.rows at.failed) r it.0 still fails it.2 it.1
  still_one place at = inl (moves.closed at.failed)

  pub advances_one : AdvancesBy g was new (λ from to. RunsAt from batch (answer_to r) to)
  advances_one = record { moves = moves; still = still_one }

-- ---- questions

-- what is said of the state of the rows is said of the moment where a World works
pub at_moment : {S : Type 0} (g : Ghosts S) (world : World S) (m : Moment) → Stands g world (Works m) → state_of_world world ≡ state_of_moment m
at_moment g world m at = ap state_of (at.rows at.failed)

pub asked : {S : Type 0} (g : Ghosts S) (world : World S) (batch : Batch) (r : Result Reply StoreFault) → (world.failed ≡ false → IsOkAnd r (MayReplyAsked (state_of_world world) batch)) → (IsTrue world.failed → r ≡ Err Closed)
    → (place : Place) → Stands g world place → MayAnswer place (Calls Ask batch) (came_of r) place
asked g world batch (Ok reply) asks closed (Works m) at =
    inl (answered.Replied reply, ((reply, refl, subst (λ s. MayReplyAsked s batch reply) (at_moment g world m at) (asks at.failed)), refl), refl)
asked g world batch (Ok reply) asks closed (Failed m) at = let e = closed at.failed in absurd cc
asked g world batch (Ok reply) asks closed (Between m next) at = let e = closed at.failed in absurd cc
asked g world batch (Err fault) asks closed (Works m) at = absurd (asks at.failed)
asked g world batch (Err fault) asks closed (Failed m) at = inl (answered.Closed, (refl, refl), ap came_of (closed at.failed))
asked g world batch (Err fault) asks closed (Between m next) at = inl (answered.Closed, (refl, refl), ap came_of (closed at.failed))

-- what the rows of a World that works tell, it tells at whatever place
pub told_by_rows : {S : Type 0} (g : Ghosts S) (world : World S) (question : Question) (o : RequestOutcome) → world.failed ≡ false → MayAnswer (Works (rows_alone world.rows.maps)) (Asks question) o (Works (rows_alone world.rows.maps))
    → (place : Place) → Stands g world place → MayAnswer place (Asks question) o place
told_by_rows g world question o works (inl (is, same)) (Works m) at = inl (subst (λ (rows : Maps). o ≡ outcome.Told (told_of question (state_of rows))) (at.rows works) is, refl)
told_by_rows g world question o works (inr (takes, is, same)) (Works m) at = inr (takes, is, refl)
told_by_rows g world question o works told (Failed m) at = let failed = at.failed in absurd cc
told_by_rows g world question o works told (Between m next) at = let failed = at.failed in absurd cc

-- and one that failed is closed
pub told_closed : {S : Type 0} (g : Ghosts S) (world : World S) (question : Question) → world.failed ≡ true → (place : Place) → Stands g world place → MayAnswer place (Asks question) outcome.Closed place
told_closed g world question failed (Works m) at = let works = at.failed in absurd cc
told_closed g world question failed (Failed m) at = inl (refl, refl)
told_closed g world question failed (Between m next) at = inl (refl, refl)
