-- A task over a connection.
use Rattle.moo_run.{proofs.Words.{◌≡◌, ◌⊎◌, inl, inr, ℕ, ◌<◌, List, Option, Result, Ok, Err, OnOk, arith, sym, ap, subst, subst₂, ◌∙◌, false, MatchResult, HasCleanDisk, Held, state, Task, Maps, Moment, Place, Works, rows_alone, Stands, IsMadeOf, Failure, Reports, store_failure, Given, Run, StopsTask, RunsAction, RunsIn, RunsMade, RunsFrom, RunsUnseen, IsOpening, MayRefuse, serves, World, store_of}}
use Rattle.sqlite.{specs.State.{State as Database}, specs.Store.{Ghosts}, specs.declared.error.Error.{Error}}
use Rattle.moo_cli.{specs.declared.task.Action.{Action}, specs.declared.task.Action.TheVariants.{Check}}
use Rattle.moo_run_lines.specs.Lines.{WritesLine}
use Rattle.moo_run_lines.specs.declared.failure.Failure.TheVariants as failed
use Rattle.moo_store.{specs.declared.fault.StoreFault.{StoreFault}, specs.OpeningRows.{IsOfStore}}
use Rattle.moo_store.specs.declared.fault.StoreFault.TheVariants as store_fault

-- why a new world can't be made, and why the opening of a world fails
pub of_making : {A : Type 0} {Q : Error → Type 0} (fault : StoreFault) (failure : Failure) → failure ≡ store_failure fault → ((fault ≡ store_fault.OutOfMemory) × A) ⊎ ((error : Error) × (fault ≡ store_fault.Store error) × Q error) → IsOpening failure
of_making fault failure of (inl (is, _)) = subst IsOpening (sym (of ∙ ap store_failure is)) tt
of_making fault failure of (inr (error, is, cause)) = subst IsOpening (sym (of ∙ ap store_failure is)) tt

pub of_store : (fault : StoreFault) → IsOfStore fault → IsOpening (store_failure fault)
of_store (store_fault.Store error) it = tt
of_store store_fault.OutOfMemory it = tt
of_store fault it = absurd it

-- any fault of opening is a refusal
pub each_refusal : (fault : StoreFault) → MayRefuse (store_failure fault)
each_refusal (store_fault.Store error) = tt
each_refusal fault = tt

-- what stops a task says nothing of a status, and what is known if less is known of the disk
stops_when : (action : Action) (m : Moment) (end : Place) (failure : Failure) (Clean More : Type 0) → (More → Clean) → (run : Run) (other : ℕ) → StopsTask action m end failure Clean run → StopsTask action m end failure More (record run { status = other })
stops_when Check m end failure Clean More on run other (just, inl (fault, is, of_store, same)) = (just, inl (fault, is, (λ some more. of_store some (on more)), same))
stops_when Check m end failure Clean More on run other (just, inr front) = (just, inr front)
stops_when action m end failure Clean More on run other it = it

module _ {S : Type 0} (g : Ghosts S) (was world : World S) (conn : Held S) (is : conn ≡ world.connection) (task : Task) (m : Moment) (given : Given) (old : Option (List ℕ)) where
  -- its run
  abbrev pub Wrote : Option (List ℕ) → ℕ → Run
  Wrote new status = record { given = given; before = old; after = new; status = status }

  abbrev pub RunsTo : Option (List ℕ) → ℕ → Type 0
  RunsTo new status = RunsIn (state g conn) task m (Wrote new status)

  -- after the task of this run the status was that of what was done, or its failure was reported
  pub runs_to : (r : Result ℕ Failure) (mid new : Option (List ℕ)) (first status : ℕ) → (serves task.action ≡ false → given.ports.rests) → RunsAction g was world task.action m (Wrote mid first) r
      → MatchResult r (λ value. (status ≡ value) × (new ≡ mid)) (λ failure. Reports failure mid new status) → RunsTo new status
  runs_to (Ok value) mid new first status rests it (same, unwritten) = subst₂ RunsTo (sym unwritten) (sym same) (subst (λ h. RunsIn (state g h) task m (Wrote mid value)) (sym is) (record { end = it.end; good = it.stands.good; leads = it.leads; rests = rests; writes = inl it.ends }, it.stands.crash))
  runs_to (Err failure) mid new first status rests it reports = subst (λ h. RunsIn (state g h) task m (Wrote new status)) (sym is) (
    record {
      end = it.end;
      good = it.stands.good;
      leads = it.leads;
      rests = rests;
      writes = inr (failure, mid, stops_when task.action m it.end failure (HasCleanDisk (store_of g world)) (HasCleanDisk (store_of g world)) (λ clean. clean) (Wrote mid first) status it.ends, reports);
    },
    it.stands.crash,
  )

  pub late_clean_of : (r : Result ℕ Failure) (mid : Option (List ℕ)) (first : ℕ) → RunsAction g was world task.action m (Wrote mid first) r → HasCleanDisk (state g conn) → HasCleanDisk (store_of g was)
  late_clean_of (Ok value) mid first it clean = it.clean (subst (λ h. HasCleanDisk (state g h)) is clean)
  late_clean_of (Err failure) mid first it clean = it.clean (subst (λ h. HasCleanDisk (state g h)) is clean)

-- ---- a status of 0

wrote_some : (line : List ℕ) (known : ℕ) (old new : Option (List ℕ)) (status : ℕ) → 0 < known → WritesLine line known old new status → status ≡ 0 → ⊥
wrote_some line known old new status some (inl it) none = omega (arith, some, it.1, none)
wrote_some line known old new status some (inr it) none = omega (arith, it.2, none)

-- no failure has it
reports_some : (failure : Failure) (old new : Option (List ℕ)) (status : ℕ) → Reports failure old new status → status ≡ 0 → ⊥
reports_some (failed.Damaged kind key) old new status (inl it) none = wrote_some _ _ old new status (omega arith) it none
reports_some (failed.Damaged kind key) old new status (inr it) none = wrote_some _ _ old new status (omega arith) it none
reports_some (failed.NotADump line) old new status (inl it) none = wrote_some _ _ old new status (omega arith) it none
reports_some (failed.NotADump line) old new status (inr it) none = wrote_some _ _ old new status (omega arith) it none
reports_some failure old new status it none = wrote_some _ _ old new status (omega arith) it none

-- what is so of what was done is so if the status is 0
pub done_if_none : (P : Type 0) (r : Result ℕ Failure) (mid new : Option (List ℕ)) (status : ℕ) → OnOk r P → MatchResult r (λ value. (status ≡ value) × (new ≡ mid)) (λ failure. Reports failure mid new status) → status ≡ 0 → P
done_if_none P (Ok value) mid new status it done none = it
done_if_none P (Err failure) mid new status it reports none = absurd (reports_some failure mid new status reports none)

-- ---- less is known

pub unseen : (task : Task) (m : Moment) (run : Run) (Clean : Type 0) → RunsFrom task m run Clean → RunsUnseen task m run
unseen task m run Clean it = record {
  end = it.end;
  good = it.good;
  leads = it.leads;
  rests = it.rests;
  writes = elim it.writes [
    | inl done ↦ inl done
    | inr stops ↦ inr (stops.0, stops.1, stops_when task.action m it.end stops.0 Clean ⊥ (λ none. absurd none) (record run { after = stops.1 }) run.status stops.2, stops.3)
  ];
}

-- a task ran over a new world
pub runs_made : {S : Type 0} (g : Ghosts S) (world : World S) (store : Database) (task : Task) (rows : Maps) (run : Run) → Stands g world (Works (rows_alone rows))
    → (HasCleanDisk (store_of g world) → (m : Moment) × IsMadeOf rows m × Stands g world (Works m)) → (HasCleanDisk store → HasCleanDisk (store_of g world)) → ((m : Moment) → Stands g world (Works m) → RunsIn store task m run)
    → RunsMade store task rows run
runs_made g world store task rows run alone seen early runs = (
  unseen task (rows_alone rows) run (HasCleanDisk store) (runs (rows_alone rows) alone).0,
  λ clean.
      let it = seen (early clean) in
      (it.0, it.1, runs it.0 it.2),
)
