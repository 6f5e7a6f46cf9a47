-- What comes of calls that are asked each alone.
use Rattle.moo_http.{proofs.Words.{◌≡◌, inl, ℕ, List, Option, ap, sym, refl, ◌∙◌, true, false, Result, Ok, Err, IsTrue, IsErrOf, Ghosts, State, Moment, state_of_moment, Place, Works, Failed, Between, World, state_of_world, Stands, RequestOutcome, MayAnswer}, proofs.Consulting.{at_moment}, specs.Settled.{lost_by}}
use Rattle.std.specs.Prelude.{if◌then◌else◌}
use Rattle.moo_world.specs.Judge.{is_due}
use Rattle.moo_text.{specs.declared.reply.Reply.{Reply}, specs.declared.reply.Reply.TheVariants.{Stale}}
use Rattle.moo_store.specs.Answered.{answers_alone}
use Rattle.moo_store.{specs.declared.fault.StoreFault.{StoreFault}, specs.declared.fault.StoreFault.TheVariants.{Closed}}
use Rattle.moo_http_request.{specs.declared.asked.Asked.TheVariants.{Each as Asks}, specs.declared.each.Each.{Each}}
use Rattle.moo_http_response.specs.declared.outcome.RequestOutcome.TheVariants as outcome

-- they are meant for another number
pub each_stale : (each : Each) (m : Moment) (seq : ℕ) → is_due each.at seq ≡ false → (state_of_moment m).seq ≡ seq → MayAnswer (Works m) (Asks each) (outcome.Replied (Stale seq)) (Works m)
each_stale each m seq other same =
    let s = state_of_moment m in
    let is : outcome.Replied (Stale seq) ≡ (if is_due each.at s.seq then outcome.Each (answers_alone s each.batches) s.seq else outcome.Replied (Stale s.seq)) = rw (same, other) refl in
    inl (is, refl)

-- or for this one
pub each_due : (each : Each) (m : Moment) (seq : ℕ) (replies : List (Option Reply)) → is_due each.at seq ≡ true → (state_of_moment m).seq ≡ seq → replies ≡ answers_alone (state_of_moment m) each.batches
    → MayAnswer (Works m) (Asks each) (outcome.Each replies seq) (Works m)
each_due each m seq replies due same replied =
    let s = state_of_moment m in
    inl (
      ap (outcome.Each replies) (sym same) ∙ ap (λ rs. outcome.Each rs s.seq) replied
          ∙ sym (ap (λ b. if b then outcome.Each (answers_alone s each.batches) s.seq else outcome.Replied (Stale s.seq)) (ap (is_due each.at) same ∙ due)),
      refl,
    )

-- a World that tells this number is one that works
pub each_at : {S : Type 0} (g : Ghosts S) (world : World S) (each : Each) (o : RequestOutcome) (r : Result ℕ StoreFault) (seq : ℕ) → r ≡ Ok seq
    → (world.failed ≡ false → r ≡ Ok (state_of_world world).seq) → (IsTrue world.failed → IsErrOf r Closed)
    → ((m : Moment) → Stands g world (Works m) → (state_of_moment m).seq ≡ seq → MayAnswer (Works m) (Asks each) o (Works m))
    → (place : Place) → Stands g world place → MayAnswer place (Asks each) o place
each_at g world each o r seq is number closed told (Works m) at =
    let here = number at.failed in
    let same : (state_of_world world).seq ≡ seq = cc in
    told m at (ap (λ (s : State). s.seq) (sym (at_moment g world m at)) ∙ same)
each_at g world each o r seq is number closed told (Failed m) at = let e = closed at.failed in absurd cc
each_at g world each o r seq is number closed told (Between m next) at = let e = closed at.failed in absurd cc

-- and one that tells none has failed
pub each_closed : {S : Type 0} (g : Ghosts S) (world : World S) (each : Each) (r : Result ℕ StoreFault) (fault : StoreFault) → r ≡ Err fault
    → (world.failed ≡ false → r ≡ Ok (state_of_world world).seq) → (IsTrue world.failed → IsErrOf r Closed)
    → (place : Place) → Stands g world place → MayAnswer place (Asks each) (lost_by fault) place
each_closed g world each r fault is number closed (Works m) at = let e = number at.failed in absurd cc
each_closed g world each r fault is number closed (Failed m) at = let e = closed at.failed in let same : fault ≡ Closed = cc in inl (ap lost_by same, refl)
each_closed g world each r fault is number closed (Between m next) at = let e = closed at.failed in let same : fault ≡ Closed = cc in inl (ap lost_by same, refl)
