-- What a witness has seen of a batch.
use Rattle.std.{proofs.Common.{◌≡◌, ℕ, ◌-◌, Err, Option, Some, None, sym, refl, ap, subst, ◌∙◌}, specs.Prelude.{IfSome}}
use Rattle.moo_rows.specs.Maps.{Maps}
use Rattle.moo_world.{specs.declared.call.Batch.{Batch}, specs.Judge.{State, run_calls, state_of}, specs.Reasons.{error_of}, specs.World.{World}}
use Rattle.moo_disclosure.specs.Disclosed.{clash_name, names_meant}
use Rattle.moo_batch.{specs.declared.witness.Facts.{Facts}, specs.declared.witness.Refusal.{Refusal}, specs.Facts.{AreFacts, AreFactsOf, refused_call, state_before_call}, specs.declared.judging.Stop.{Stop}, specs.declared.judging.Stop.TheVariants.{Refused as refused_at, Full as full_at, OutOfMemory as no_memory}, specs.declared.judging.Verdict.{Verdict}, specs.declared.judging.Verdict.TheVariants.{Refused, Full, OutOfMemory}, specs.Judge.{ComeTo, StandsAtCheck}, specs.Seeing.{HasSeen}}

-- the facts in a world are those of the batch, if the world is that after the calls before; the facts of a held call name nothing
facts-of : (world : World) (base : Maps) (b : Batch) (refusal : Refusal) (facts : Option Facts)
    → (refusal.held ≡ None → world ≡ (state_before_call (state_of base) b.programmer b.calls (refusal.call - 1)).world) → IfSome facts (AreFacts world base b refusal) → IfSome facts (AreFactsOf base b refusal)
facts-of world base b refusal None at told = tt
facts-of world base b refusal (Some facts) at told = record {
  meant = λ own. subst (λ w. IfSome (refused_call b refusal) (λ call. facts.names.meant.items ≡ names_meant w b.programmer call.name call.args refusal.reason)) (at own) (told.meant own);
  clash = λ own. subst (λ w. IfSome (refused_call b refusal) (λ call. facts.names.clash ≡ clash_name w b.programmer call.args refusal.reason)) (at own) (told.clash own);
  held = told.held;
  petition = told.petition;
  next = told.next;
}

-- what a witness keeps of a batch whose calls stopped
pub stopped-seen : {Kept : Type 0} (sees : Kept → Batch → Refusal → Option Facts → Kept → Type 0) (base : Maps) (b : Batch) (after : State) (verdict : Verdict) (old mid new : Kept) (stop : Stop) → mid ≡ old
    → ((refusal : Refusal) → stop ≡ refused_at refusal → verdict ≡ Refused refusal.call (error_of refusal.reason)) → ((call : ℕ) → stop ≡ full_at call → verdict ≡ Full call)
    → ((call : ℕ) → stop ≡ no_memory call → verdict ≡ OutOfMemory) → ((refusal : Refusal) → stop ≡ refused_at refusal → (facts : Option Facts) × IfSome facts (AreFacts after.world base b refusal) × sees mid b refusal facts new)
    → ((call : ℕ) → stop ≡ full_at call → new ≡ mid) → ((call : ℕ) → stop ≡ no_memory call → new ≡ mid)
    → StandsAtCheck b.programmer b.calls (state_of base) after stop → ComeTo (run_calls (state_of base) b.programmer b.calls) after (Err stop) → HasSeen sees base b verdict old new
stopped-seen sees base b after verdict old mid new (refused_at refusal) same refused full memory seen full_still memory_still stands comes =
    let told : (facts : Option Facts) × IfSome facts (AreFacts after.world base b refusal) × sees mid b refusal facts new = seen refusal refl in
    let facts = facts-of after.world base b refusal told.0 (λ own. ap (λ (s : State). s.world) (stands own)) told.1 in
    subst (λ v. HasSeen sees base b v old new) (sym (refused refusal refl)) (refusal, refl, refl, comes, told.0, facts, subst (λ k. sees k b refusal told.0 new) same told.2)
stopped-seen sees base b after verdict old mid new (full_at call) same refused full memory seen full_still memory_still stands comes =
    subst (λ v. HasSeen sees base b v old new) (sym (full call refl)) (full_still call refl ∙ same)
stopped-seen sees base b after verdict old mid new (no_memory call) same refused full memory seen full_still memory_still stands comes =
    subst (λ v. HasSeen sees base b v old new) (sym (memory call refl)) (memory_still call refl ∙ same)
