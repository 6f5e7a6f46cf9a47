-- Verdicts by their cases, and rows whose number of batches is raised.
use Rattle.std.{proofs.Common.{◌≡◌, ℕ, Err, ◌<◌, ◌≤◌, true, false, refl, sym, ap, ◌∙◌, subst}, specs.Prelude.{if◌then◌else◌, nat_lt}, proofs.lemmas.Bool.{lt-ltb, le-ltb}}
use Rattle.moo_rows.specs.Maps.{Maps}
use Rattle.moo_world.{specs.declared.call.Batch.{Batch}, specs.World.{IsWellFormed}, specs.Rows.{world_of, world_shown, IsGood}, specs.Reasons.{error_of}, specs.Judge.{State, Ran, NoRoom, Stale, is_due, last_seq, run_calls, state_of, verdict_of, judge}}
use Rattle.moo_batch.{specs.declared.witness.Refusal.{Refusal}, specs.declared.judging.Stop.{Stop}, specs.declared.judging.Stop.TheVariants.{Refused as refused_at, Full as full_at, OutOfMemory as no_memory}, specs.declared.judging.Verdict.{Verdict}, specs.declared.judging.Verdict.TheVariants.{Refused, Full, OutOfMemory}, specs.Judge.{ComeTo, IsVerdict}}

pub judge-stale : (s : State) (b : Batch) → is_due b.at s.seq ≡ false → judge s b ≡ Stale s.seq
unfolding judge
judge-stale s b e = ap (λ due. if due then (if nat_lt s.seq last_seq then verdict_of s.seq (run_calls s b.programmer b.calls) else NoRoom 0) else Stale s.seq) e

pub judge-full : (s : State) (b : Batch) → is_due b.at s.seq ≡ true → last_seq ≤ s.seq → judge s b ≡ NoRoom 0
unfolding judge
judge-full s b e full =
    ap (λ due. if due then (if nat_lt s.seq last_seq then verdict_of s.seq (run_calls s b.programmer b.calls) else NoRoom 0) else Stale s.seq) e
    ∙ ap (λ room. if room then verdict_of s.seq (run_calls s b.programmer b.calls) else NoRoom 0) (le-ltb s.seq last_seq full)

pub judge-run : (s : State) (b : Batch) → is_due b.at s.seq ≡ true → s.seq < last_seq → judge s b ≡ verdict_of s.seq (run_calls s b.programmer b.calls)
unfolding judge
judge-run s b e room =
    ap (λ due. if due then (if nat_lt s.seq last_seq then verdict_of s.seq (run_calls s b.programmer b.calls) else NoRoom 0) else Stale s.seq) e
    ∙ ap (λ room. if room then verdict_of s.seq (run_calls s b.programmer b.calls) else NoRoom 0) (lt-ltb s.seq last_seq room)

-- the rows with another number of accepted batches
abbrev pub with_seq : ℕ → Maps → Maps
with_seq n t = record t { head = record t.head { seq = n } }

pub world_of-with_seq : (n : ℕ) (t : Maps) → world_of (with_seq n t) ≡ world_of t
unfolding world_shown
world_of-with_seq n t = refl

pub good-with_seq : (n : ℕ) (t : Maps) → IsGood t → IsGood (with_seq n t)
good-with_seq n t h = record {
  sound = record { props_below = h.sound.props_below; definers = h.sound.definers; slots = h.sound.slots; one_name = h.sound.one_name; verbs = h.sound.verbs };
  formed = subst IsWellFormed (sym (world_of-with_seq n t)) h.formed;
  petitions = h.petitions;
}

-- the verdict on a batch whose calls stopped
module _ (base : Maps) (b : Batch) (after : State) (ran : Ran) (verdict : Verdict) (judged : judge (state_of base) b ≡ verdict_of base.head.seq ran) (none : IsVerdict base b OutOfMemory) where
  pub stopped-so : (stop : Stop) → ((refusal : Refusal) → stop ≡ refused_at refusal → verdict ≡ Refused refusal.call (error_of refusal.reason)) → ((call : ℕ) → stop ≡ full_at call → verdict ≡ Full call)
      → ((call : ℕ) → stop ≡ no_memory call → verdict ≡ OutOfMemory) → ComeTo ran after (Err stop) → IsVerdict base b verdict
  stopped-so (refused_at refusal) refused full memory comes = subst (IsVerdict base b) (sym (refused refusal refl)) (judged ∙ ap (verdict_of base.head.seq) comes)
  stopped-so (full_at call) refused full memory comes = subst (IsVerdict base b) (sym (full call refl)) (judged ∙ ap (verdict_of base.head.seq) comes)
  stopped-so (no_memory call) refused full memory comes = subst (IsVerdict base b) (sym (memory call refl)) none
