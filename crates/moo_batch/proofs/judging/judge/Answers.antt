use Rattle.std.{proofs.Common.{◌≡◌, Err, ◌+◌, ◌<◌, [], true, false, refl, sym, ap, ◌∙◌, subst, rules}, proofs.lemmas.List.{nil_from_length}}
use Rattle.moo_rows.{specs.Maps.{Base, Held}, specs.declared.row.Head.{Head}}
use Rattle.moo_world.{specs.Between.{CallsLead}, specs.Judge.{is_due, last_seq, verdict_of, run_calls, Accepted}, specs.Judge.{state_of}}
use Rattle.moo_memory.specs.Changes.{AreChanges}
use Rattle.moo_batch.{proofs.Seen.{stopped-seen}, specs.Judge.{ComeTo, IsVerdict, StandsAtCheck}, specs.declared.judging.Verdict.TheVariants.{OutOfMemory}, proofs.Ticking.{none_taken}, proofs.Verdicts.{judge-stale, judge-full, judge-run, with_seq, good-with_seq, world_of-with_seq, stopped-so}}
use Rattle.moo_batch.proofs.judging.judge.Goals as goal

pub returns-then-not-is_due-clause-verdict : goal.returns-then-not-is_due-clause-verdict
returns-then-not-is_due-clause-verdict g c =
    let t = (g.R.Rows.held c.args.rows.now).maps in
    let late : is_due c.args.batch.now.at t.head.seq ≡ false = ap (λ (h : Head). is_due c.args.batch.now.at h.seq) (sym c.head-head.ensures) ∙ sym c.is_due.ensures ∙ search rules in
    rw c.head-head.ensures (judge-stale (state_of t) c.args.batch.now late)

pub returns-then-head-ge-LAST_SEQ-clause-verdict : goal.returns-then-head-ge-LAST_SEQ-clause-verdict
returns-then-head-ge-LAST_SEQ-clause-verdict g c =
    let t = (g.R.Rows.held c.args.rows.now).maps in
    let due : is_due c.args.batch.now.at t.head.seq ≡ true = ap (λ (h : Head). is_due c.args.batch.now.at h.seq) (sym c.head-head.ensures) ∙ sym c.is_due.ensures ∙ search rules in
    judge-full (state_of t) c.args.batch.now due (rw c.head-head.ensures at c.if-head-ge-LAST_SEQ.true)

pub returns-in-Err-clause-verdict : goal.returns-in-Err-clause-verdict
returns-in-Err-clause-verdict g c =
    let t = (g.R.Rows.held c.args.rows.now).maps in
    let batch = c.args.batch.now in
    let due : is_due c.args.batch.now.at t.head.seq ≡ true = ap (λ (h : Head). is_due c.args.batch.now.at h.seq) (sym c.head-head.ensures) ∙ sym c.is_due.ensures ∙ search rules in
    let room : t.head.seq < last_seq = rw c.head-head.ensures at c.if-head-ge-LAST_SEQ.false in
    let ran = run_calls (state_of c.within-draft.result.maps) batch.programmer c.items-calls.result.now in
    let same : run_calls (state_of t) batch.programmer batch.calls ≡ ran = λ i. run_calls (state_of (sym c.within-draft.ensures.maps i)) batch.programmer (sym c.items-calls.ensures.value i) in
    let none : IsVerdict t batch OutOfMemory = search rules in
    stopped-so t batch (state_of c.run_calls-ran.new.rows.maps) ran c.verdict_of_stop.result (judge-run (state_of t) batch due room ∙ ap (verdict_of t.head.seq) same) none c.in-Err.stop c.verdict_of_stop.ensures.refused c.verdict_of_stop.ensures.full c.verdict_of_stop.ensures.memory c.in-Err.ensures.comes

pub returns-in-Ok-into_changes-clause-verdict : goal.returns-in-Ok-into_changes-clause-verdict
returns-in-Ok-into_changes-clause-verdict g c =
    let t = (g.R.Rows.held c.args.rows.now).maps in
    let batch = c.args.batch.now in
    let due : is_due c.args.batch.now.at t.head.seq ≡ true = ap (λ (h : Head). is_due c.args.batch.now.at h.seq) (sym c.head-head.ensures) ∙ sym c.is_due.ensures ∙ search rules in
    let room : t.head.seq < last_seq = rw c.head-head.ensures at c.if-head-ge-LAST_SEQ.false in
    let same : run_calls (state_of t) batch.programmer batch.calls ≡ run_calls (state_of c.within-draft.result.maps) batch.programmer c.items-calls.result.now =
    λ i. run_calls (state_of (sym c.within-draft.ensures.maps i)) batch.programmer (sym c.items-calls.ensures.value i) in
    let after = c.run_calls-ran.new.rows.maps in
    let next = with_seq (t.head.seq + 1) after in
    let base : c.set_head.new.self.base.maps ≡ t = ap (λ (h : Held). h.base.maps) c.set_head.ensures ∙ ap (λ (b : Base). b.maps) c.in-Ok.ensures.kept.base ∙ ap (λ (b : Base). b.maps) c.within-draft.ensures.base in
    let maps : c.set_head.new.self.maps ≡ next = ap (λ (h : Held). h.maps) c.set_head.ensures ∙ (λ i. record after { head = record (c.head-next.ensures i) { seq = (c.head-head.ensures i).seq + 1 } }) in
    let judged = judge-run (state_of t) batch due room ∙ ap (verdict_of t.head.seq) (same ∙ c.in-Ok.ensures.comes)
    ∙ ap (λ w. Accepted c.in-Ok.answers (record (state_of after) { world = w; seq = t.head.seq + 1 })) (sym (world_of-with_seq (t.head.seq + 1) after)) in
    let lead : CallsLead batch.programmer batch.calls t after =
    subst (λ m. CallsLead batch.programmer batch.calls m after) c.within-draft.ensures.maps (subst (λ calls. CallsLead batch.programmer calls c.within-draft.result.maps after) c.items-calls.ensures.value c.in-Ok.ensures.kept.numbers) in
    (next, subst (λ b. AreChanges b next c.in-Ok-into_changes.changes) base (subst (λ n. AreChanges c.set_head.new.self.base.maps n c.in-Ok-into_changes.changes) maps c.in-Ok-into_changes.ensures), good-with_seq (t.head.seq + 1) after c.in-Ok.ensures.kept.good, judged, (after, lead, refl))

-- a batch without calls
pub returns-then-is_empty-clause-verdict : goal.returns-then-is_empty-clause-verdict
returns-then-is_empty-clause-verdict g c =
    let t = (g.R.Rows.held c.args.rows.now).maps in
    let batch = c.args.batch.now in
    let due : is_due c.args.batch.now.at t.head.seq ≡ true = ap (λ (h : Head). is_due c.args.batch.now.at h.seq) (sym c.head-head.ensures) ∙ sym c.is_due.ensures ∙ search rules in
    let room : t.head.seq < last_seq = rw c.head-head.ensures at c.if-head-ge-LAST_SEQ.false in
    let listed : c.items-calls.result.now ≡ [] = nil_from_length c.items-calls.result.now (search rules) in
    let none : batch.calls ≡ [] = sym c.items-calls.ensures.value ∙ listed in
    let answers : c.from_vec.result ≡ [] = search rules in
    let next = with_seq (t.head.seq + 1) t in
    let changes : AreChanges t next c.changes_without_calls.result = subst (λ (h : Head). AreChanges t (record t { head = record h { seq = h.seq + 1 } }) c.changes_without_calls.result) c.head-head.ensures (c.changes_without_calls.ensures t) in
    let judged = judge-run (state_of t) batch due room ∙ ap (λ calls. verdict_of t.head.seq (run_calls (state_of t) batch.programmer calls)) none
    ∙ (λ i. Accepted (sym answers i) (record (state_of t) { world = sym (world_of-with_seq (t.head.seq + 1) t) i; seq = t.head.seq + 1 })) in
    let lead : CallsLead batch.programmer batch.calls t t = subst (λ calls. CallsLead batch.programmer calls t t) (sym none) refl in
    (next, changes, good-with_seq (t.head.seq + 1) t c.requires.good, judged, (t, lead, refl))

-- ---- how many ticks are left

pub returns-then-not-is_due-clause-ticks : goal.returns-then-not-is_due-clause-ticks
returns-then-not-is_due-clause-ticks g c = none_taken _ _ (λ made. made)

pub returns-then-head-ge-LAST_SEQ-clause-ticks : goal.returns-then-head-ge-LAST_SEQ-clause-ticks
returns-then-head-ge-LAST_SEQ-clause-ticks g c = none_taken _ _ (λ made. made refl)

pub returns-then-is_empty-clause-ticks : goal.returns-then-is_empty-clause-ticks
returns-then-is_empty-clause-ticks g c = none_taken _ _ (λ made. made (search rules))

-- ---- what the witness has seen

pub returns-in-Err-clause-seen : goal.returns-in-Err-clause-seen
returns-in-Err-clause-seen g c =
    let t = (g.R.Rows.held c.args.rows.now).maps in
    let batch = c.args.batch.now in
    let after = state_of c.run_calls-ran.new.rows.maps in
    let comes : ComeTo (run_calls (state_of t) batch.programmer batch.calls) after (Err c.in-Err.stop) =
    subst (λ m. ComeTo (run_calls (state_of m) batch.programmer batch.calls) after (Err c.in-Err.stop)) c.within-draft.ensures.maps
    (subst (λ calls. ComeTo (run_calls (state_of c.within-draft.result.maps) batch.programmer calls) after (Err c.in-Err.stop)) c.items-calls.ensures.value c.in-Err.ensures.comes) in
    let stands : StandsAtCheck batch.programmer batch.calls (state_of t) after c.in-Err.stop =
    subst (λ m. StandsAtCheck batch.programmer batch.calls (state_of m) after c.in-Err.stop) c.within-draft.ensures.maps
    (subst (λ calls. StandsAtCheck batch.programmer calls (state_of c.within-draft.result.maps) after c.in-Err.stop) c.items-calls.ensures.value c.in-Err.ensures.at) in
    stopped-seen g.W.Witness.sees t batch after c.verdict_of_stop.result (g.W.Witness.kept c.args.witness.now) (g.W.Witness.kept c.leave_ticks.new.witness) (g.W.Witness.kept c.verdict_of_stop.new.witness) c.in-Err.stop c.leave_ticks.ensures.kept
    c.verdict_of_stop.ensures.refused c.verdict_of_stop.ensures.full c.verdict_of_stop.ensures.memory c.verdict_of_stop.ensures.sees c.verdict_of_stop.ensures.full_still c.verdict_of_stop.ensures.memory_still stands comes
