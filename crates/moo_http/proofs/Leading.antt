-- Whatever texts and connections make of a World, accepted batches lead to it.
use Rattle.moo_http.{proofs.Words.{◌≡◌, inl, inr, ℕ, List, [], ◌∷◌, ◌++◌, Option, refl, sym, subst, true, false, Result, Ok, Err, Batch, judge, Moment, LeadsBy, Place, Works, Failed, Between, state_of_moment, RunsAt, AsksAt, StopsStore, VerdictLeads, Asked, Refused, Calls, Run, Ask, RequestOutcome, MayAnswer, Traffic, Exchanged, Yields, Attended, ServesOn, attended_between, Happening, visit, settle, ServeFault, Read, Write, OutOfMemory, ServiceFault, Nothing, Request}, specs.Leading.{LeadsTo}, specs.Turns.{Happens, AfterTurns}}
use Rattle.std.specs.Prelude.{Bool}
use Rattle.std.specs.declared.io.Read as Reading
use Rattle.std.specs.declared.io.Write as Writing
use Rattle.moo_arrivals.specs.declared.arrivals.Arrivals as Arrivals
use Rattle.moo_world.specs.Judge as model
use Rattle.moo_text.{specs.declared.next.Next.{Next}, specs.declared.reply.Answer.{Answer}, specs.declared.fault.TextFault.{TextFault}}
use Rattle.moo_text.specs.declared.next.Next.TheVariants.{Batch as Whole, Malformed, Truncated, End}
use Rattle.moo_text.specs.declared.reply.Answer.TheVariants as answered
use Rattle.moo_store.{specs.Turns.{Turn, Turns}, specs.Stopping.{EndsAs, AnswersBy}, specs.declared.course.Course.{Course}, specs.Moment.{LeadsByEach}, specs.Place.{LeavesJust}, proofs.Leading.{leads_join}}
use Rattle.moo_http_request.specs.declared.asked.Asked.TheVariants.{Each, Question}
use Rattle.moo_http.specs.declared.ports.Ports as Ports
use Rattle.moo_http.specs.declared.service.ServiceFault.TheVariants as service

module _ (m : Moment) where
  pub leads_start : LeadsTo m (Works m)
  leads_start t is = ([], is)

  pub leads_just : (end : Place) → LeavesJust m end → LeadsTo m end
  leads_just end just t may = ([], just t may)

  pub leads_same : (from to : Place) → to ≡ from → LeadsTo m from → LeadsTo m to
  leads_same from to same before = subst (LeadsTo m) (sym same) before

  -- some batches lead there
  abbrev AreLed : Moment → Type 0
  AreLed t = (batches : List Batch) × LeadsByEach m batches t

  leads_by : (n : Moment) (batch : Batch) (next : Moment) → LeadsTo m (Works n) → LeadsBy n batch next → AreLed next
  leads_by n batch next before one = let it = before n refl in (it.0 ++ batch ∷ [], leads_join m n next it.0 (batch ∷ []) it.1 (next, one, refl))

  -- ---- one batch

  verdict_leads : (n : Moment) (batch : Batch) (v : model.Verdict) (to : Place) → VerdictLeads n batch v to → LeadsTo m (Works n) → LeadsTo m to
  verdict_leads n batch (model.Accepted answers end) to (next, one, inl is) before = leads_same (Works next) to is (λ t may. subst AreLed (sym may) (leads_by n batch next before one))
  verdict_leads n batch (model.Accepted answers end) to (next, one, inr is) before = leads_same (Failed next) to is (λ t may. subst AreLed (sym may) (leads_by n batch next before one))
  verdict_leads n batch (model.Refused call code) to is before = leads_same (Works n) to is before
  verdict_leads n batch (model.NoRoom call) to is before = leads_same (Works n) to is before
  verdict_leads n batch (model.Stale seq) to is before = leads_same (Works n) to is before

  stops_lead : (n : Moment) (batch : Batch) (v : model.Verdict) (to : Place) → StopsStore n batch v to → LeadsTo m (Works n) → LeadsTo m to
  stops_lead n batch (model.Accepted answers end) to (next, one, is) before =
      leads_same (Between n next) to is (λ t may. elim may [ inl same ↦ before t same | inr same ↦ subst AreLed (sym same) (leads_by n batch next before one) ])
  stops_lead n batch (model.Refused call code) to is before = absurd is
  stops_lead n batch (model.NoRoom call) to is before = absurd is
  stops_lead n batch (model.Stale seq) to is before = absurd is

  pub runs_lead : (from to : Place) (batch : Batch) (a : Answer) → RunsAt from batch a to → LeadsTo m from → LeadsTo m to
  runs_lead (Works n) to batch (answered.Replied reply) (inl (none, same, run)) before = leads_same (Works n) to same before
  runs_lead (Works n) to batch (answered.Replied reply) (inr (is, leads)) before = verdict_leads n batch (judge (state_of_moment n) batch) to leads before
  runs_lead (Works n) to batch answered.Fault stops before = stops_lead n batch (judge (state_of_moment n) batch) to stops before
  runs_lead (Works n) to batch answered.Closed runs before = absurd runs
  runs_lead (Works n) to batch (answered.Malformed number) runs before = absurd runs
  runs_lead (Works n) to batch answered.Truncated runs before = absurd runs
  runs_lead (Failed n) to batch a (closed, same) before = leads_same (Failed n) to same before
  runs_lead (Between n next) to batch a (closed, same) before = leads_same (Between n next) to same before

  asks_lead : (from to : Place) (batch : Batch) (a : Answer) → AsksAt from batch a to → LeadsTo m from → LeadsTo m to
  asks_lead (Works n) to batch a (asks, same) before = leads_same (Works n) to same before
  asks_lead (Failed n) to batch a (closed, same) before = leads_same (Failed n) to same before
  asks_lead (Between n next) to batch a (closed, same) before = leads_same (Between n next) to same before

  -- ---- texts

  turn_leads_to : (old new : Place) (item : Next) (a : Answer) → Turn RunsAt old item a new → LeadsTo m old → LeadsTo m new
  turn_leads_to old new (Whole batch) a turn before = runs_lead old new batch a turn before
  turn_leads_to old new (Malformed number) a (is, same) before = leads_same old new same before
  turn_leads_to old new Truncated a (is, same) before = leads_same old new same before
  turn_leads_to old new End a turn before = absurd turn

  pub turns_lead_to : (old new : Place) (items : List Next) (answers : List Answer) → Turns RunsAt old items answers new → LeadsTo m old → LeadsTo m new
  turns_lead_to old new [] [] same before = leads_same old new same before
  turns_lead_to old new [] (a ∷ answers) turns before = absurd turns
  turns_lead_to old new (item ∷ items) [] turns before = absurd turns
  turns_lead_to old new (item ∷ items) (a ∷ answers) (mid, turn, turns) before = turns_lead_to mid new items answers turns (turn_leads_to old mid item a turn before)

  module _ (stop : Bool) (old new : Place) (text before behind : Option (List ℕ)) where
    ends_lead : (stopped : Bool) (batches lost : ℕ) → EndsAs RunsAt stop old new text before behind stopped batches lost → LeadsTo m old → LeadsTo m new
    ends_lead true batches lost (stops, early) led = turns_lead_to old new _ _ early.turns led
    ends_lead false batches lost (run, accepted) led = turns_lead_to old new _ _ run.turns led

    pub text_leads_to : (r : Result Course TextFault) → AnswersBy RunsAt stop old new text before behind r → LeadsTo m old → LeadsTo m new
    text_leads_to (Ok course) it led = ends_lead course.stopped course.tally.batches course.tally.lost it led
    text_leads_to (Err fault) (run, accepted) led = turns_lead_to run.mid new _ _ run.in_hand (turns_lead_to old run.mid _ _ run.turns led)

  -- ---- connections

  answers_lead : (from to : Place) (asked : Asked) (o : RequestOutcome) → MayAnswer from asked o to → LeadsTo m from → LeadsTo m to
  answers_lead from to asked o (inr (takes, is, same)) before = leads_same from to same before
  answers_lead from to (Refused refusal) o (inl (is, same)) before = leads_same from to same before
  answers_lead from to (Calls Run batch) o (inl (a, runs, is)) before = runs_lead from to batch a runs before
  answers_lead from to (Calls Ask batch) o (inl (a, asks, is)) before = asks_lead from to batch a asks before
  answers_lead from to (Each each) o (inl (is, same)) before = leads_same from to same before
  answers_lead from to (Question question) o (inl (is, same)) before = leads_same from to same before

  yields_lead : (from to : Place) (bytes : Traffic) (output : List ℕ) → Yields from to bytes output → LeadsTo m from → LeadsTo m to
  yields_lead from to bytes output (Nothing, takes, (none, same)) before = leads_same from to same before
  yields_lead from to bytes output (Request is_head asks_why asked, takes, (o, whys, wanted, answers, is)) before = answers_lead from to asked o answers before

  exchanged_lead : (r : Result (Unit {0}) ServeFault) (from to : Place) (bytes : Traffic) → Exchanged r from to bytes → LeadsTo m from → LeadsTo m to
  exchanged_lead (Ok done) from to bytes (output, yields, wrote) before = yields_lead from to bytes output yields before
  exchanged_lead (Err Write) from to bytes (output, yields, sent, wrote) before = yields_lead from to bytes output yields before
  exchanged_lead (Err Read) from to bytes (same, unwritten) before = leads_same from to same before
  exchanged_lead (Err OutOfMemory) from to bytes (unwritten, inl same) before = leads_same from to same before
  exchanged_lead (Err OutOfMemory) from to bytes (unwritten, inr (output, yields)) before = yields_lead from to bytes output yields before

  module _ {A R W : Type 0} (source : Arrivals.Ghosts A R W) (reader : Reading.Ghosts R) (fails : R → R → Type 0) (writer : Writing.Ghosts W) where
    happens_leads : (turn : Happening) (old : A) (from : Place) (new : A) (to : Place) → Happens source reader fails writer turn old from new to → LeadsTo m from → LeadsTo m to
    happens_leads (visit true) old from new to (inl (opened, closed, between, handed, it, taken, unlimited)) before = exchanged_lead (Ok tt) from to _ it before
    happens_leads (visit false) old from new to (inl (opened, closed, between, handed, (fault, cause, it), taken, unlimited)) before = exchanged_lead (Err fault) from to _ it before
    happens_leads (visit answered) old from new to (inr (failed, same, none)) before = leads_same from to same before
    happens_leads (settle told) old from new to (loses, same) before = leads_same from to same before

    after_leads : (turns : List Happening) (old : A) (from : Place) (new : A) (to : Place) → AfterTurns source reader fails writer turns old from new to → LeadsTo m from → LeadsTo m to
    after_leads [] old from new to (still, same) before = leads_same from to same before
    after_leads (turn ∷ earlier) old from new to (between, mid, after, last) before = happens_leads turn between mid new to last (after_leads earlier old from between mid after before)

    pub attended_leads : (answered failed : ℕ) (old : A) (from : Place) (new : A) (to : Place) → Attended source reader fails writer answered failed old from new to → LeadsTo m from → LeadsTo m to
    attended_leads answered failed old from new to (turns, a, f, after) before = after_leads turns old from new to after before

    -- ---- ports

    module _ {P : Type 0} (ports : Ports.Ghosts P A R W) (first last : P) where
      pub attends_lead : (port answered failed : ℕ) (from to : Place) → (attended_between source reader fails writer ports first last).attends port answered failed from to → LeadsTo m from → LeadsTo m to
      attends_lead port answered failed from to (between, old, new, listens, all, closes) before = attended_leads answered failed old from new to all.0 before

      pub serves_lead_to : (r : Result (Unit {0}) ServiceFault) (port count : ℕ) (from to : Place) (before after : Option (List ℕ)) → ServesOn (attended_between source reader fails writer ports first last) r port count from to before after
          → LeadsTo m from → LeadsTo m to
      serves_lead_to (Ok done) port count from to before after (text, (answered, failed, sum, holds, is), wrote) led = attends_lead port answered failed from to holds led
      serves_lead_to (Err service.Port) port count from to before after (same, refuses, still) led = leads_same from to same led
      serves_lead_to (Err service.Write) port count from to before after (inl ((same, none), front)) led = leads_same from to same led
      serves_lead_to (Err service.Write) port count from to before after (inr (text, (answered, failed, sum, holds, is), front)) led = attends_lead port answered failed from to holds led
      serves_lead_to (Err service.OutOfMemory) port count from to before after (inl ((same, none), front)) led = leads_same from to same led
      serves_lead_to (Err service.OutOfMemory) port count from to before after (inr (text, (answered, failed, sum, holds, is), front)) led = attends_lead port answered failed from to holds led
