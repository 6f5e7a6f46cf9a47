-- A run of batches leaves a well formed world and petitions of such ones.
use Rattle.moo_world.{proofs.Words.{arith, ◌≡◌, true, List, [], ◌∷◌, refl, list_all, and_parts, ObjNo, Value, Batch, Call, Ran, Through, FailedAt, FullAt, after_one, run_calls, verdict_of, judge, left_by, arguments_fit, RunsKeepForm, Outcome, Done, Failed, Full, State, IsFormed, batch_call}, proofs.Form.Petitions.{requests_keep_form}}

-- calls that were all done leave them so
abbrev LeavesForm : Ran → Type 0
LeavesForm (Through vs s) = IsFormed s
LeavesForm (FailedAt k failure) = Unit {0}
LeavesForm (FullAt k) = Unit {0}

one_more : (v : Value) (r : Ran) → LeavesForm r → LeavesForm (after_one v r)
one_more v r h = grind arith

calls_leave : (s : State) (p : ObjNo) (calls : List Call) → IsFormed s → list_all arguments_fit calls ≡ true → LeavesForm (run_calls s p calls)
calls_leave s p [] formed fit = formed
calls_leave s p (call ∷ calls) formed fit = by (batch_call s p call) refl (λ next. calls_leave next p calls)
  where
    parts : (arguments_fit call ≡ true) × (list_all arguments_fit calls ≡ true)
    parts = and_parts (arguments_fit call) (list_all arguments_fit calls) fit

    by : (e : Outcome State) → batch_call s p call ≡ e → ((next : State) → IsFormed next → list_all arguments_fit calls ≡ true → LeavesForm (run_calls next p calls))
        → LeavesForm (elim e [ Done v next ↦ after_one v (run_calls next p calls) | Failed failure ↦ FailedAt 1 failure | Full ↦ FullAt 1 ])
    by (Done v next) e rest = one_more v (run_calls next p calls) (rest next (requests_keep_form s next p call v formed parts.0 e) parts.1)
    by (Failed failure) e rest = tt
    by Full e rest = tt

verdict_leaves : (s : State) (r : Ran) → IsFormed s → LeavesForm r → IsFormed (left_by s (verdict_of s.seq r))
verdict_leaves s r formed h = grind arith

judged_leaves : (s : State) (b : Batch) → IsFormed s → list_all arguments_fit b.calls ≡ true → IsFormed (left_by s (judge s b))
unfolding judge
judged_leaves s b formed fit = grind (arith, left_by, verdict_leaves, calls_leave)

pub runs_keep_form : RunsKeepForm
runs_keep_form s [] formed fit = formed
runs_keep_form s (b ∷ bs) formed fit =
    let parts = and_parts (list_all arguments_fit b.calls) (list_all (λ batch. list_all arguments_fit batch.calls) bs) fit in
    runs_keep_form (left_by s (judge s b)) bs (judged_leaves s b formed parts.0) parts.1
