-- The calls of a batch, one after another.
use Rattle.std.proofs.Common.{ℕ, subst, ◌≡◌, ◌+◌, List, [], ◌∷◌, ◌++◌, length, refl, sym, ap, ◌∙◌, arith}
use Rattle.moo_value.{specs.declared.value.ObjNo.{ObjNo}, specs.declared.value.Value.{Value}}
use Rattle.moo_rows.specs.Maps.{Maps, Held}
use Rattle.moo_world.{specs.declared.call.Call.{Call}, specs.Between.{CallsLead, CallKeepsNumbers}, specs.Rows.{IsGood}, specs.Outcomes.{Failure, Outcome, Done, Failed, Full}, specs.Requests.{State, batch_call}, specs.Judge.{Ran, Through, FailedAt, FullAt, after_one, run_calls}, specs.Names.{is_grant}}
use Rattle.moo_batch.{specs.Outcomes.{state_in, KeepsGoodRows}, specs.Judge.{HaveKept}}

-- answers, and then what the later calls come to
abbrev pub after_all : List Value → Ran → Ran
after_all [] ran = ran
after_all (v ∷ vs) ran = after_one v (after_all vs ran)

-- the rows are good ones, no batch is counted yet, and where the calls that are left lead, all of them do
pub record HaveRunKeeping (before : Held) (p : ObjNo) (all : List Call) (now : Held) (left : List Call) : Type 0 where
  pub good : IsGood now.maps
  pub seq : now.maps.head.seq ≡ before.maps.head.seq
  pub base : now.base ≡ before.base
  pub numbers : (last : Maps) → CallsLead p left now.maps last → CallsLead p all before.maps last

-- all calls come to these answers and then what the calls that are left come to
pub record HaveRunSoFar (before : Held) (p : ObjNo) (all : List Call) (answers : List Value) (now : Held) (left : List Call) : Type 0 where
  pub run : run_calls (state_in before) p all ≡ after_all answers (run_calls (state_in now) p left)
  pub kept : HaveRunKeeping before p all now left

after_all-append : (vs : List Value) (v : Value) (ran : Ran) → after_all (vs ++ v ∷ []) ran ≡ after_all vs (after_one v ran)
after_all-append [] v ran = refl
after_all-append (u ∷ vs) v ran = ap (after_one u) (after_all-append vs v ran)

after_all-through : (vs : List Value) (s : State) → after_all vs (Through [] s) ≡ Through vs s
after_all-through [] s = refl
after_all-through (v ∷ vs) s = ap (after_one v) (after_all-through vs s)

after_all-failed : (vs : List Value) (e : Failure) → after_all vs (FailedAt 1 e) ≡ FailedAt (length vs + 1) e
after_all-failed [] e = refl
after_all-failed (v ∷ vs) e = ap (after_one v) (after_all-failed vs e) ∙ ap (λ n. FailedAt n e) (omega arith)

after_all-full : (vs : List Value) → after_all vs (FullAt 1) ≡ FullAt (length vs + 1)
after_all-full [] = refl
after_all-full (v ∷ vs) = ap (after_one v) (after_all-full vs) ∙ ap FullAt (omega arith)

-- before the first call
pub run-started : (before : Held) (p : ObjNo) (all : List Call) → IsGood before.maps → HaveRunSoFar before p all [] before all
run-started before p all good = record { run = refl; kept = record { good = good; seq = refl; base = refl; numbers = λ last lead. lead } }

-- what the first of some calls makes of them
first_of : State → ObjNo → List Call → Outcome State → Ran
first_of s p calls o = elim o [ Done v next ↦ after_one v (run_calls next p calls) | Failed e ↦ FailedAt 1 e | Full ↦ FullAt 1 ]

first_is : (s : State) (p : ObjNo) (call : Call) (calls : List Call) (o : Outcome State) → batch_call s p call ≡ o → run_calls s p (call ∷ calls) ≡ first_of s p calls o
unfolding first_of
first_is s p call calls o e = ap (first_of s p calls) e

module _ {before : Held} {p : ObjNo} {all : List Call} {answers : List Value} {now : Held} {rest : List Call} where
  pub run-one_more : (call : Call) (left : List Call) (v : Value) (more : List Value) (next : Held) → more ≡ answers ++ v ∷ [] → rest ≡ call ∷ left → HaveRunSoFar before p all answers now rest
      → batch_call (state_in now) p call ≡ Done v (state_in next) → KeepsGoodRows (CallKeepsNumbers (is_grant call.name) p call.args) now next → HaveRunSoFar before p all more next left
  unfolding first_of
  run-one_more call left v more next e is was done kept = let h = subst (HaveRunSoFar before p all answers now) is was in record {
    run = h.run ∙ ap (after_all answers) (first_is (state_in now) p call left (Done v (state_in next)) done)
        ∙ sym (ap (λ vs. after_all vs (run_calls (state_in next) p left)) e ∙ after_all-append answers v (run_calls (state_in next) p left));
    kept = record {
      good = kept.good;
      seq = kept.seq ∙ h.kept.seq;
      base = kept.base ∙ h.kept.base;
      numbers = λ last lead. h.kept.numbers last (v, next.maps, done, kept.good, kept.numbers, lead);
    };
  }

  pub run-kept : rest ≡ [] → HaveRunSoFar before p all answers now rest → HaveKept p all before now
  run-kept is was = let h = subst (HaveRunSoFar before p all answers now) is was in record { good = h.kept.good; seq = h.kept.seq; base = h.kept.base; numbers = h.kept.numbers now.maps refl }

  pub run-ended : rest ≡ [] → HaveRunSoFar before p all answers now rest → run_calls (state_in before) p all ≡ Through answers (state_in now)
  run-ended is h = (subst (HaveRunSoFar before p all answers now) is h).run ∙ after_all-through answers (state_in now)

  pub run-failed : (call : Call) (left : List Call) (e : Failure) (done : ℕ) → done ≡ length answers → rest ≡ call ∷ left → HaveRunSoFar before p all answers now rest
      → batch_call (state_in now) p call ≡ Failed e → run_calls (state_in before) p all ≡ FailedAt (done + 1) e
  unfolding first_of
  run-failed call left e done many is h failed =
      (subst (HaveRunSoFar before p all answers now) is h).run ∙ ap (after_all answers) (first_is (state_in now) p call left (Failed e) failed) ∙ after_all-failed answers e ∙ ap (λ n. FailedAt (n + 1) e) (sym many)

  pub run-full : (call : Call) (left : List Call) (done : ℕ) → done ≡ length answers → rest ≡ call ∷ left → HaveRunSoFar before p all answers now rest
      → batch_call (state_in now) p call ≡ Full → run_calls (state_in before) p all ≡ FullAt (done + 1)
  unfolding first_of
  run-full call left done many is h full =
      (subst (HaveRunSoFar before p all answers now) is h).run ∙ ap (after_all answers) (first_is (state_in now) p call left Full full) ∙ after_all-full answers ∙ ap (λ n. FullAt (n + 1)) (sym many)
