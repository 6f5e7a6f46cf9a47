-- From what was done to a World to how a task ends.
use Rattle.moo_run.{proofs.Words.{◌≡◌, ◌≢◌, NoBatches, Read, inl, inr, ℕ, Bool, true, false, List, Option, Result, Ok, Err, IfOk, IfErr, IfSome, IsSome, MatchResult, refl, sym, ap, ap₂, subst, if◌then◌else◌, HasCleanDisk, State, state_of, Moment, Place, Works, Failed, LeavesJust, rows_alone, state_of_moment, World, store_of, state_of_world, Stands, MovesBy, RunsAt, AsksAt, RehearsesAt, text_failure, store_failure, checked_line, None, Some, true≢false, ◌∙◌, course_status, line_of, AnswersText, AnswersAs, StopsAs, StopsIn, StopsChecking, ComesOf, EndsTask, Failure}, specs.Run.{EndsCheck, EndsText, TellsLack}, specs.declared.texts.Manner.{Manner}}
use Rattle.moo_run.specs.declared.texts.Manner.TheVariants as manner
use Rattle.sqlite.specs.{Store.{Ghosts}, Held.{state}}
use Rattle.moo_text.specs.{declared.fault.TextFault.{TextFault}, declared.reply.Answer.{Answer}}
use Rattle.moo_world.specs.declared.call.Batch.{Batch}
use Rattle.std.specs.{Prelude.{◌==◌}, Io.KnownBytes.{Appends}}
use Rattle.moo_text.specs.declared.fault.TextFault.TheVariants as text_fault
use Rattle.moo_cells.specs.Shows.{ShowsRows}
use Rattle.moo_http.{specs.Leading.{LeadsTo}, proofs.Leading.{leads_start, leads_just}}
use Rattle.moo_store.{specs.declared.course.Course.{Course}, specs.Stopping.{EndsAs}, specs.Runs.{LeavesChecked}, specs.Checked.{Checks, IsUnchecked}, specs.OpeningRows.{IsOfStore}, specs.declared.fault.StoreFault.{StoreFault}}
use Rattle.moo_store.specs.declared.fault.StoreFault.TheVariants as store_fault

-- ---- what comes of a text

done_by : (step : Place → Batch → Answer → Place → Type 0) (stop : Bool) (m : Moment) (end : Place) (text old new : Option (List ℕ)) (stopped : Bool) (batches lost : ℕ) → EndsAs step stop (Works m) end text old new stopped batches lost
    → AnswersText step stop m end text old new (if stopped then 1 else (if lost == 0 then 0 else 1))
done_by step stop m end text old new true batches lost (is, early) = inr (is, batches, lost, early, refl)
done_by step stop m end text old new false batches lost whole = inl (batches, lost, whole, refl)

-- by the manner: it came to its end, or to the first answer that isn't `accepted`
pub comes_done : (how : Manner) (m : Moment) (end : Place) (text old new : Option (List ℕ)) (course : Course) → ComesOf how m end text old new (Ok course) → AnswersAs how m end text old new (course_status course)
comes_done (manner.Apply options) m end text old new course it = done_by RunsAt options.stop m end text old new course.stopped course.tally.batches course.tally.lost it
comes_done (manner.Rehearse options) m end text old new course (just, (last, it)) = (just, (last, done_by RehearsesAt options.stop (rows_alone m.rows) last text old new course.stopped course.tally.batches course.tally.lost it))
comes_done manner.Ask m end text old new course (just, it) = (just, done_by AsksAt false m (Works m) text old new course.stopped course.tally.batches course.tally.lost it)

-- or a fault came
pub comes_stops : (how : Manner) (m : Moment) (end : Place) (text old new : Option (List ℕ)) (fault : TextFault) (failure : Failure) → failure ≡ text_failure fault → ComesOf how m end text old new (Err fault) → StopsAs how m end failure text old new
comes_stops (manner.Apply options) m end text old new fault failure is it = inl (fault, is, it)
comes_stops (manner.Rehearse options) m end text old new fault failure is (just, (last, it)) = (just, (last, inl (fault, is, it)))
comes_stops manner.Ask m end text old new fault failure is (just, it) = (just, inl (fault, is, it))

-- nothing is done with a text whose file can't be opened
pub never_opened : (how : Manner) (m : Moment) (text old : Option (List ℕ)) → StopsAs how m (Works m) NoBatches text old old
never_opened (manner.Apply options) m text old = inr (refl, refl, refl)
never_opened (manner.Rehearse options) m text old = (λ t is. is, (Works (rows_alone m.rows), inr (refl, refl, refl)))
never_opened manner.Ask m text old = (λ t is. is, inr (refl, refl, refl))

-- ---- what was done to a World

module _ {S : Type 0} (g : Ghosts S) (was world : World S) (m : Moment) where
  pub ends_map : (P Q : Place → Type 0) → ((end : Place) → P end → Q end) → EndsTask g was world m P → EndsTask g was world m Q
  ends_map P Q f it = record { end = it.end; leads = it.leads; clean = it.clean; stands = it.stands; ends = f it.end it.ends }

  -- of a text that was open it isn't so that its file can't be opened
  pub any_lack : (Lack : Type 0) (how : Manner) (text old new : Option (List ℕ)) (r : Result ℕ Failure) → EndsText g was world ⊥ how m text old new r → EndsText g was world Lack how m text old new r
  any_lack Lack how text old new (Ok status) it = it
  any_lack Lack how text old new (Err failure) it = ends_map _ _ (λ end stops. (stops.0, λ none. absurd (stops.1 none))) it

  -- it was moved
  pub moved : (Way : Place → Place → Type 0) → ((to : Place) → Way (Works m) to → LeadsTo m to) → Stands g was (Works m) → MovesBy g was world Way → EndsTask g was world m (Way (Works m))
  moved Way leads stands moves =
      let it = moves.goes (Works m) stands in
      record { end = it.0; leads = leads it.0 it.2; clean = moves.clean; stands = it.1; ends = it.2 }

  -- it failed where it was, with the connection as it was
  pub failed_there : (P : Place → Type 0) → world.connection ≡ was.connection → Stands g world (Failed m) → P (Failed m) → EndsTask g was world m P
  failed_there P same stands p = record {
    end = Failed m;
    leads = leads_just m (Failed m) (λ t is. is);
    clean = subst (λ conn. HasCleanDisk (state g conn) → HasCleanDisk (store_of g was)) (sym same) (λ clean. clean);
    stands = stands;
    ends = p;
  }

-- it is as it was
pub unchanged : {S : Type 0} (g : Ghosts S) (world : World S) (m : Moment) (P : Place → Type 0) → Stands g world (Works m) → P (Works m) → EndsTask g world world m P
unchanged g world m P stands p = record { end = Works m; leads = leads_start m; clean = λ clean. clean; stands = stands; ends = p }

-- its own rows are those of the moment
at_rows : {S : Type 0} (g : Ghosts S) (world : World S) (m : Moment) → Stands g world (Works m) → state_of_world world ≡ state_of_moment m
at_rows g world m stands = ap state_of (stands.rows stands.failed)

-- what was said of its own state is said of the moment
pub says : {S : Type 0} (g : Ghosts S) (world : World S) (m : Moment) (line : State → List ℕ) (old new : Option (List ℕ)) (r : Result ℕ Failure) → Stands g world (Works m)
    → IfOk r (λ status. Appends old new (line (state_of_world world)) × (status ≡ 0)) → IfErr r (λ failure. StopsIn (line (state_of_world world)) failure old new)
    → MatchResult r (λ status. EndsTask g world world m (λ end. LeavesJust m end × Appends old new (line (state_of_moment m)) × (status ≡ 0))) (λ failure. EndsTask g world world m (λ end. LeavesJust m end × StopsIn (line (state_of_moment m)) failure old new))
says g world m line old new (Ok status) stands said none = unchanged g world m _ stands (λ t is. is, subst (λ s. Appends old new (line s)) (at_rows g world m stands) said.0, said.1)
says g world m line old new (Err failure) stands none said = unchanged g world m _ stands (λ t is. is, subst (λ s. StopsIn (line s) failure old new) (at_rows g world m stands) said)

-- a check leaves the moment
checked_just : (m : Moment) (r : Result ℕ StoreFault) (to : Place) → LeavesChecked (Works m) r to → LeavesJust m to
checked_just m (Ok count) to is = subst (LeavesJust m) (sym is) (λ t it. it)
checked_just m (Err store_fault.OutOfMemory) to is = subst (LeavesJust m) (sym is) (λ t it. it)
checked_just m (Err fault) to is = subst (LeavesJust m) (sym is.1) (λ t it. elim it [ inl same ↦ same | inr same ↦ same ])

some_of : {A : Type 0} (P : A → Type 0) (o : Option A) → IsSome o → IfSome o P → (x : A) × P x
some_of P None none holds = absurd (true≢false (sym none))
some_of P (Some x) some holds = (x, holds)

-- and on a clean disk it finds no damage of known cells
checked_cause : {S : Type 0} (g : Ghosts S) (was world : World S) (m : Moment) (fault : StoreFault) (to : Place) → Stands g was (Works m) → LeavesChecked (Works m) (Err fault) to → IsUnchecked was.rows.maps (store_of g was) (store_of g world) fault
    → (HasCleanDisk (store_of g world) → HasCleanDisk (store_of g was)) → IsSome m.cells → HasCleanDisk (store_of g world) → IsOfStore fault
checked_cause g was world m store_fault.OutOfMemory to stands way checks early some clean = tt
checked_cause g was world m (store_fault.Store error) to stands way checks early some clean = tt
checked_cause g was world m fault to stands way checks early some clean =
    let it = some_of _ m.cells some (stands.rests (early clean) tt) in
    checks.whole way.0 clean it.0.tables it.1.0 (subst (ShowsRows it.0.tables) (sym (stands.rows stands.failed)) it.1.2)

module _ {S : Type 0} (g : Ghosts S) (was world : World S) (m : Moment) (stands : Stands g was (Works m)) where
  -- the line is that of the moment
  told : (count seq : ℕ) → Checks was.rows.maps (store_of g was) (store_of g world) (Ok count) → seq ≡ (state_of_world was).seq → checked_line seq count ≡ line_of checked_line (state_of_moment m)
  told count seq checks number = ap₂ checked_line number checks.count ∙ ap (line_of checked_line) (at_rows g was m stands)

  -- a check was done, and something is said of what it leaves
  pub after_check : (r : Result ℕ StoreFault) (P : Place → Type 0) → MovesBy g was world (λ from to. LeavesChecked from r to) → ((to : Place) → LeavesChecked (Works m) r to → LeavesJust m to → P to) → EndsTask g was world m P
  after_check r P moves says =
      let it = moves.goes (Works m) stands in
      let just = checked_just m r it.0 it.2 in
      record { end = it.0; leads = leads_just m it.0 just; clean = moves.clean; stands = it.1; ends = says it.0 it.2 just }

  -- it found a fault
  pub check_stops : (fault : StoreFault) (failure : Failure) (old : Option (List ℕ)) → failure ≡ store_failure fault → MovesBy g was world (λ from to. LeavesChecked from (Err fault) to) → Checks was.rows.maps (store_of g was) (store_of g world) (Err fault)
      → EndsTask g was world m (λ end. StopsChecking m end failure (HasCleanDisk (store_of g world)) old old)
  check_stops fault failure old is moves checks =
      after_check (Err fault) _ moves (λ to way just. (just, inl (fault, is, checked_cause g was world m fault to stands way checks moves.clean, refl)))

  -- it found none, and the line tells how much there is, or a front of it
  pub check_tells : (count seq : ℕ) (old new : Option (List ℕ)) (r : Result ℕ Failure) → MovesBy g was world (λ from to. LeavesChecked from (Ok count) to) → Checks was.rows.maps (store_of g was) (store_of g world) (Ok count)
      → seq ≡ (state_of_world was).seq → IfOk r (λ status. Appends old new (checked_line seq count) × (status ≡ 0)) → IfErr r (λ failure. StopsIn (checked_line seq count) failure old new) → EndsCheck g was world m old new r
  check_tells count seq old new (Ok status) moves checks number said none =
      after_check (Ok count) _ moves (λ to way just. (just, subst (λ line. Appends old new line) (told count seq checks number) said.0, said.1))
  check_tells count seq old new (Err failure) moves checks number none said =
      after_check (Ok count) _ moves (λ to way just. (just, inr (subst (λ line. StopsIn line failure old new) (told count seq checks number) said)))

-- ---- a file that can't be opened

-- what stops an open text isn't that its file can't be opened
pub text_opened : (fault : TextFault) (failure : Failure) → failure ≡ text_failure fault → failure ≢ NoBatches
text_opened text_fault.Read failure is e = let bad : Read ≡ NoBatches = sym is ∙ e in cc
text_opened fault failure is e = let bad : text_failure fault ≡ NoBatches = sym is ∙ e in cc

pub never_lacks : {A : Type 0} (lacks : List ℕ → Type 0) (word : List ℕ) (P : Failure → Type 0) (r : Result A Failure) → IfErr r (λ failure. P failure × (failure ≢ NoBatches)) → IfErr r (λ failure. P failure × TellsLack lacks word failure)
never_lacks lacks word P (Ok a) it = tt
never_lacks lacks word P (Err failure) it = (it.0, λ e. absurd (it.1 e))
