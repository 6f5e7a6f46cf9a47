-- The ledger of a desk, kept from call to call.
use Rattle.std.proofs.Common.{◌≡◌, ◌<◌, ◌≤◌, ◌+◌, ◌^◌, inl, inr, ℕ, ℤ, Bool, true, List, [], ◌∷◌, ◌++◌, length, Option, Some, None, refl, sym, ap, subst, ◌∙◌, length-append, arith}
use Rattle.std.specs.declared.io.Read as Reading
use Rattle.std.specs.declared.io.Write as Writing
use Rattle.moo_arrivals.specs.declared.cause.Loss.{Loss}
use Rattle.moo_http_request.specs.declared.incoming.Incoming as Incoming
use Rattle.moo_desk.specs.declared.gate.Inward as Inward
use Rattle.moo_desk.specs.declared.gate.Outward as Outward
use Rattle.moo_desk.specs.declared.held.Held.{Held}
use Rattle.moo_desk.specs.declared.leaving.Leaving.{Leaving}
use Rattle.moo_desk.specs.declared.leaving.Stage.{Stage}
use Rattle.moo_desk.specs.declared.leaving.Stage.TheVariants.{Lost}
use Rattle.moo_desk.specs.declared.losses.Losses.{Losses}
use Rattle.moo_desk.specs.declared.slot.Slot.{Slot}
use Rattle.moo_desk.specs.Deeds.{Book, book_of, Deed, takes, steps, ends, count_taken, After, Keep, LetsGo}
use Rattle.moo_desk.specs.Each.{Each}
use Rattle.moo_desk.specs.Exchange.{with_back}
use Rattle.moo_desk.specs.Later.{IsLater, IsGathered}
use Rattle.moo_desk.specs.Told.{TellsOf}
use Rattle.moo_desk.proofs.Onward.{later_same, later_joined}
use Rattle.moo_run_laws.specs.Fates.{Call, calls_accept, calls_close, calls_settle, handed_in, missed_in, given_in, told_in, in_all, AreGivenBack, Fate, still, ended, HasEnded, Becomes, still_held, lost_at, count_lost, count_noted}
use Rattle.moo_run_laws.specs.DeskRuns.{Runs, DeskLedger, IsClosed}

-- ---- lists

each_length : {A : Type 0} (Holds : A → A → Type 0) (xs ys : List A) → Each Holds xs ys → length ys ≡ length xs
each_length Holds [] [] it = refl
each_length Holds (x ∷ xs) (y ∷ ys) it = omega (arith, each_length Holds xs ys it.1)
each_length Holds xs ys it = absurd it

-- ---- fates

lost_once : (stage : Stage) → lost_at stage ≤ 1
lost_once (Lost cause) = omega arith
lost_once stage = omega arith

module _ {R W : Type 0} (writer : Writing.Ghosts W) (to : W → ℤ) where
  -- what became of these: so they are held still, and so many were lost
  abbrev GoesOn : List (Leaving R W) → List (Leaving R W) → ℕ → Type 0
  GoesOn began left lost = (fates : List (Fate R W)) × Becomes writer to began fates × (still_held fates ≡ left) × (count_lost fates ≡ lost)

  few_lost : (began : List (Leaving R W)) (fates : List (Fate R W)) → Becomes writer to began fates → count_lost fates ≤ length began
  few_lost [] [] it = omega arith
  few_lost (b ∷ began) (still now ∷ fates) it = omega (arith, few_lost began fates it.1)
  few_lost (b ∷ began) (ended now ∷ fates) it = omega (arith, few_lost began fates it.2, lost_once now.stage)
  few_lost began fates it = absurd it

  -- one more is given back
  given_more : (began left : List (Leaving R W)) (lost : ℕ) (it : Leaving R W) → GoesOn began left lost → GoesOn (began ++ it ∷ []) (left ++ it ∷ []) lost
  given_more [] left lost it ([], p, holds, counts) = (still it ∷ [], (later_same writer to it, tt), ap (λ l. l ++ it ∷ []) holds, counts)
  given_more (b ∷ began) left lost it (still now ∷ fates, p, holds, counts) =
      let more = given_more began (still_held fates) (count_lost fates) it (fates, p.1, refl, refl) in
      (still now ∷ more.0, (p.0, more.1), ap (λ l. now ∷ l) more.2 ∙ ap (λ l. l ++ it ∷ []) holds, more.3 ∙ counts)
  given_more (b ∷ began) left lost it (ended now ∷ fates, p, holds, counts) =
      let more = given_more began left (count_lost fates) it (fates, p.2, holds, refl) in
      (ended now ∷ more.0, (p.0, p.1, more.1), more.2, omega (arith, more.3, counts))
  given_more began left lost it (fates, p, holds, counts) = absurd p

  -- those that are still held go on
  sent_on : (began : List (Leaving R W)) (fates : List (Fate R W)) (ys : List (Leaving R W)) → Becomes writer to began fates → Each (IsLater writer to) (still_held fates) ys → GoesOn began ys (count_lost fates)
  sent_on [] [] [] p q = ([], tt, refl, refl)
  sent_on [] [] (y ∷ ys) p q = absurd q
  sent_on (b ∷ began) (still now ∷ fates) [] p q = absurd q
  sent_on (b ∷ began) (still now ∷ fates) (y ∷ ys) p q =
      let more = sent_on began fates ys p.1 q.1 in
      (still y ∷ more.0, (later_joined writer to b now y p.0 q.0, more.1), ap (λ l. y ∷ l) more.2, more.3)
  sent_on (b ∷ began) (ended now ∷ fates) ys p q =
      let more = sent_on began fates ys p.2 q in
      (ended now ∷ more.0, (p.0, p.1, more.1), more.2, omega (arith, more.3))
  sent_on began fates ys p q = absurd p

  -- one of them is over
  has_ended : (began : List (Leaving R W)) (fates : List (Fate R W)) (front back : List (Leaving R W)) (x : Leaving R W) → Becomes writer to began fates → still_held fates ≡ front ++ x ∷ back → HasEnded x → GoesOn began (front ++ back) (count_lost fates + lost_at x.stage)
  has_ended [] [] front back x p same gone = absurd (omega (arith, ap length same, length-append front (x ∷ back)))
  has_ended (b ∷ began) (still now ∷ fates) [] back x p same gone = (ended x ∷ fates, (subst (λ it. IsLater writer to b it) (cc same) p.0, gone, p.1), cc same, refl)
  has_ended (b ∷ began) (still now ∷ fates) (f ∷ front) back x p same gone =
      let more = has_ended began fates front back x p.1 (cc same) gone in
      (still now ∷ more.0, (p.0, more.1), cc (same, more.2), more.3)
  has_ended (b ∷ began) (ended now ∷ fates) front back x p same gone =
      let more = has_ended began fates front back x p.2 same gone in
      (ended now ∷ more.0, (p.0, p.1, more.1), more.2, omega (arith, more.3))
  has_ended began fates front back x p same gone = absurd p

-- ---- losses

over_of : {R W : Type 0} (it : Leaving R W) (old new : Losses) → LetsGo it old new → HasEnded it
over_of it old new (inl (done, sent, same)) = inl (done, sent)
over_of it old new (inr (cause, lost, notes)) = inr (cause, lost)

noted_after : {R W : Type 0} (it : Leaving R W) (old new : Losses) → count_noted old + lost_at it.stage < 2 ^ 32 → LetsGo it old new → count_noted new ≡ count_noted old + lost_at it.stage
noted_after it old new few (inl (done, sent, same)) = omega (arith, ap count_noted same, ap lost_at done)
noted_after it old new few (inr (cause, lost, inl (all, more))) = omega (arith, ap lost_at lost, ap length all, length-append {A = Loss}, more)
noted_after it old new few (inr (cause, lost, inr (all, more))) = omega (arith, ap lost_at lost, ap length all, more)

tells_of : (R W : Type 0) (is_last : Bool) (told : Option Loss) (old new : Losses) → TellsOf old told new → count_noted old ≡ told_in {R = R} {W = W} (calls_settle is_last told) + count_noted new
tells_of R W is_last None old new (was, more, is, then) = omega (arith, ap length was, more, ap length is, then)
tells_of R W is_last (Some loss) old new (inl (all, more)) = omega (arith, ap length all, length-append {A = Loss}, more)
tells_of R W is_last (Some loss) old new (inr (was, is, more, same)) = omega (arith, ap length was, ap length is, more)

-- ---- calls

given_count : {R W : Type 0} (calls : List (Call R W)) (began : List (Leaving R W)) → AreGivenBack calls began → length began ≡ in_all given_in calls
given_count [] began none = ap length none
given_count (calls_close it closing route ∷ earlier) began (front, last, given, begins, is) = omega (arith, given_count earlier front given, ap length is, length-append front (last ∷ []))
given_count (call ∷ earlier) began given = omega (arith, given_count earlier began given)

module _ {R W : Type 0} {inward : Inward.Ghosts R} {incoming : Incoming.Ghosts R} {reader : Reading.Ghosts R} {outward : Outward.Ghosts W} {writer : Writing.Ghosts W} where
  slots_after : (deeds : List (Deed (Slot R W inward incoming reader outward writer) R W)) (a b : Book (Slot R W inward incoming reader outward writer) R W) → After deeds a b → length b.slots ≡ length a.slots + count_taken deeds
  slots_after [] a b p = omega (arith, ap (λ it. length it.slots) p)
  slots_after (takes slot ∷ earlier) a b (between, p, (fresh, slots, leaving, losses)) = omega (arith, slots_after earlier a between p, ap length slots, length-append between.slots (slot ∷ []))
  slots_after (steps ∷ earlier) a b (between, p, (gathered, later, losses)) = omega (arith, slots_after earlier a between p, each_length IsGathered between.slots b.slots gathered)
  slots_after (ends it ∷ earlier) a b (between, p, (slots, out, gone)) = omega (arith, slots_after earlier a between p, ap length slots)

  slots_kept : (n : ℕ) (a b : Book (Slot R W inward incoming reader outward writer) R W) → Keep n a b → length b.slots ≡ length a.slots + n
  slots_kept n a b keep = omega (arith, slots_after keep.deeds a b keep.after, keep.count)

  -- each that came is gathered, was handed out, or was lost as it came
  all_came : (calls : List (Call R W)) (first last : Held R W inward incoming reader outward writer × ℕ) → Runs calls first last
      → (missed : ℕ) × (last.1 ≡ first.1 + (length last.0.slots.items + in_all handed_in calls + missed)) × (missed ≤ in_all missed_in calls)
  all_came [] first last (none, same) = (0, omega (arith, ap (λ it. it.1) same, ap (λ it. length it.0.slots.items) same, ap length none.0), omega arith)
  all_came (calls_accept None ∷ earlier) first last (between, runs, comes) =
      let so = all_came earlier first between runs in
      (so.0 + comes.lost, omega (arith, so.1, comes.all, slots_kept comes.came _ _ comes.keep), omega (arith, so.2, comes.few))
  all_came (calls_accept (Some it) ∷ earlier) first last (between, runs, (slot, mid, comes, ((front, back, none, ready, was, is), leaving, losses), handed)) =
      let so = all_came earlier first between runs in
      (so.0, omega (arith, so.1, comes.all, comes.few, slots_kept comes.came _ _ comes.keep, ap length was, ap length is, length-append front (slot ∷ back), length-append front back), omega (arith, so.2))
  all_came (calls_close given closing route ∷ earlier) first last (between, runs, (it, begins, keep, same)) =
      let so = all_came earlier first between runs in
      (so.0, omega (arith, so.1, same, slots_kept 0 (with_back (book_of between.0) it) (book_of last.0) keep), omega (arith, so.2))
  all_came (calls_settle is_last told ∷ earlier) first last (between, runs, ((mid, keep, slots, leaving, tells, same), none)) =
      let so = all_came earlier first between runs in
      (so.0, omega (arith, so.1, same, ap length slots, slots_kept 0 (book_of between.0) mid keep), omega (arith, so.2))

  -- what became of these, if so many losses were told of
  abbrev Owes : List (Leaving R W) → ℕ → Book (Slot R W inward incoming reader outward writer) R W → Type 0
  Owes began told book = GoesOn writer outward.peer began book.leaving (told + count_noted book.losses)

  owes_after : (deeds : List (Deed (Slot R W inward incoming reader outward writer) R W)) (a b : Book (Slot R W inward incoming reader outward writer) R W) (began : List (Leaving R W)) (told : ℕ) → length began < 2 ^ 32 → After deeds a b → Owes began told a → Owes began told b
  owes_after [] a b began told few p owes = subst (Owes began told) (sym p) owes
  owes_after (takes slot ∷ earlier) a b began told few (between, p, (fresh, slots, leaving, losses)) owes =
      let so = owes_after earlier a between began told few p owes in
      (so.0, so.1, so.2 ∙ sym leaving, omega (arith, so.3, ap count_noted losses))
  owes_after (steps ∷ earlier) a b began told few (between, p, (gathered, later, losses)) owes =
      let so = owes_after earlier a between began told few p owes in
      let more = sent_on writer outward.peer began so.0 b.leaving so.1 (subst (λ l. Each (IsLater writer outward.peer) l b.leaving) (sym so.2) later) in
      (more.0, more.1, more.2, omega (arith, so.3, more.3, ap count_noted losses))
  owes_after (ends it ∷ earlier) a b began told few (between, p, (slots, (front, back, was, is), gone)) owes =
      let so = owes_after earlier a between began told few p owes in
      let more = has_ended writer outward.peer began so.0 front back it so.1 (so.2 ∙ was) (over_of it between.losses b.losses gone) in
      let noted = noted_after it between.losses b.losses (omega (arith, so.3, more.3, few_lost writer outward.peer began more.0 more.1, few)) gone in
      (more.0, more.1, more.2 ∙ sym is, omega (arith, so.3, more.3, noted))

  owes_kept : (n : ℕ) (a b last : Book (Slot R W inward incoming reader outward writer) R W) (began : List (Leaving R W)) (told now : ℕ) → Keep n a b → last.leaving ≡ b.leaving → told + count_noted b.losses ≡ now + count_noted last.losses → length began < 2 ^ 32
      → Owes began told a → Owes began now last
  owes_kept n a b last began told now keep leaving losses few owes =
      let kept = owes_after keep.deeds a b began told few keep.after owes in
      (kept.0, kept.1, kept.2 ∙ sym leaving, kept.3 ∙ losses)

  -- each that was given back is still held, or was answered whole, or is told of or noted as lost
  all_owed : (calls : List (Call R W)) (first last : Held R W inward incoming reader outward writer × ℕ) → Runs calls first last
      → (began : List (Leaving R W)) × AreGivenBack calls began × (length began < 2 ^ 32 → Owes began (in_all told_in calls) (book_of last.0))
  all_owed [] first last (none, same) =
      ([], refl, λ few. ([], tt, sym (ap (λ it. it.0.leaving.items) same ∙ none.1), omega (arith, ap (λ it. count_noted it.0.losses) same, ap length none.2, none.3)))
  all_owed (calls_accept None ∷ earlier) first last (between, runs, comes) =
      let so = all_owed earlier first between runs in
      (so.0, so.1, λ few. owes_kept comes.came (book_of between.0) (book_of last.0) (book_of last.0) so.0 _ _ comes.keep refl (omega arith) few (so.2 few))
  all_owed (calls_accept (Some it) ∷ earlier) first last (between, runs, (slot, mid, comes, (out, leaving, losses), handed)) =
      let so = all_owed earlier first between runs in
      (so.0, so.1, λ few. owes_kept comes.came (book_of between.0) mid (book_of last.0) so.0 _ _ comes.keep leaving (omega (arith, ap count_noted losses)) few (so.2 few))
  all_owed (calls_close given closing route ∷ earlier) first last (between, runs, (it, begins, keep, same)) =
      let so = all_owed earlier first between runs in
      let more = λ (few : length (so.0 ++ it ∷ []) < 2 ^ 32). given_more writer outward.peer so.0 _ _ it (so.2 (omega (arith, few, length-append so.0 (it ∷ [])))) in
      (so.0 ++ it ∷ [], (so.0, it, so.1, begins, refl), λ few. owes_kept 0 (with_back (book_of between.0) it) (book_of last.0) (book_of last.0) _ _ _ keep refl (omega arith) few (more few))
  all_owed (calls_settle is_last told ∷ earlier) first last (between, runs, ((mid, keep, slots, leaving, tells, same), none)) =
      let so = all_owed earlier first between runs in
      (so.0, so.1, λ few. owes_kept 0 (book_of between.0) mid (book_of last.0) so.0 _ _ keep leaving (omega (arith, tells_of R W is_last told mid.losses last.0.losses tells)) few (so.2 few))

  pub ledger_after : (calls : List (Call R W)) (first last : Held R W inward incoming reader outward writer × ℕ) → Runs calls first last → in_all given_in calls < 2 ^ 32 → DeskLedger calls first last
  ledger_after calls first last runs bound =
      let came = all_came calls first last runs in
      let owed = all_owed calls first last runs in
      let owes = owed.2 (omega (arith, given_count calls owed.0 owed.1, bound)) in
      record {
        missed = came.0;
        came = came.1;
        few = came.2;
        began = owed.0;
        fates = owes.0;
        given = owed.1;
        becomes = owes.1;
        held = owes.2;
        losses = owes.3;
      }

  pub ledger_closed : (calls : List (Call R W)) (first last : Held R W inward incoming reader outward writer × ℕ) → Runs (calls_settle true None ∷ calls) first last → in_all given_in calls < 2 ^ 32
      → (ledger : DeskLedger (calls_settle true None ∷ calls) first last) × IsClosed (calls_settle true None ∷ calls) first last ledger
  ledger_closed calls first last (between, runs, ((mid, keep, slots, leaving, (was, more, is, then), same), none)) bound =
      let ledger = ledger_after (calls_settle true None ∷ calls) first last (between, runs, ((mid, keep, slots, leaving, (was, more, is, then), same), none)) (omega (arith, bound)) in
      (ledger, (ledger.held ∙ none refl, omega (arith, ledger.losses, ap length is, then)))
