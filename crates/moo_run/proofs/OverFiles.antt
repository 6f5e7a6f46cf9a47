-- A run over a file: what it holds is taken up, or a world is made in it, or it is refused.
use Rattle.moo_run.{proofs.Words.{◌≡◌, inl, inr, ℕ, List, true, false, true≢false, ◌∙◌, begins_anew, is_load, IsTrue, World, Works, Stands, store_of, over_files, only_reads, Held, file_state, RunsIn, Option, refl, sym, subst, Ghosts, Image, Moment, Task, Reports, Tells, store_failure, Run, RunsTask, FailsAtOnce, RunsFile, Failure, ◌⊎◌, HasCleanDisk, Maps, LeavesAsMade, BeginsFrom, RunsMade, RanOver, RefusedOver}, specs.declared.ends.Ends.{Ends}, proofs.Connections.{of_store, each_refusal}, specs.Run.{RefusesTask}, specs.Ends.{LeavesNew, RanOnto, RefusedOnto}}
use Rattle.moo_run.specs.declared.ends.Ends.TheVariants as variant
use Rattle.sqlite_store.specs.declared.store.FileStore.{FileStore}
use Rattle.sqlite.specs.Tree.{Trees}
use Rattle.moo_cli.specs.declared.task.{Action.{Action}, Action.TheVariants.{Load}}
use Rattle.moo_files.{specs.Opened.{Contents, Nothing, Database, Unfit, Opens, Refuses}, specs.Contents.{HoldsTrees, HasAnyTable, HoldsNoTable}, specs.Causes.{HasCauseOr, IsDenied, IsOpenable}, specs.Making.{Empty, IsUnmadeIn, StopsMaking}, specs.Remains.{IsCleanRemains}, proofs.MakingLemmas.{moment_kept, table_kept, trees_or_made}, proofs.RemainsLemmas.{keeps_more, blank_more}, specs.declared.remains.Remains.{Remains}}
use Rattle.moo_files.specs.declared.remains.Remains.TheVariants as remains
use Rattle.moo_store.{specs.OpeningRows.{IsOfStore}, specs.declared.fault.StoreFault.{StoreFault}}

module _ (fault : StoreFault) where
  -- the line that there is no such file is that of a store that can't open it
  pub tells_fault : (failure : Failure) (old new : Option (List ℕ)) (status : ℕ) → Tells fault failure → Reports failure old new status → Reports (store_failure fault) old new status
  tells_fault failure old new status (inl is) reports = subst (λ f. Reports f old new status) is reports
  tells_fault failure old new status (inr (cannot, none)) reports =
      subst (λ f. Reports f old new status) (sym cannot) (subst (λ f. Reports f old new status) none reports)

  pub fails_at_once : (run : Run) → IsOfStore fault → Reports (store_failure fault) run.before run.after run.status → FailsAtOnce run
  fails_at_once run it reports = (store_failure fault, of_store fault it, reports)

-- a task that takes up its file isn't one that begins with a new world
pub never_anew : {A : Type 0} (task : Task) → begins_anew task ≡ false → begins_anew task ≡ true → A
never_anew task other anew = absurd (true≢false (sym anew ∙ other))

loads_anew : {A : Type 0} (task : Task) → IsTrue (is_load task.action) → begins_anew task ≡ false → A
loads_anew {A} task = by task.action
  where
    by : (action : Action) → IsTrue (is_load action) → begins_anew (record task { action = action }) ≡ false → A
    by (Load dump) loads other = absurd (true≢false other)
    by action loads other = absurd (true≢false (sym loads))

module _ {T D : Type 0} {g : Ghosts D} (task : Task) (image : Image) where
  -- what a run over a file writes, whatever the file holds
  pub runs_task : (end : Ends T D g) (run : Run) → RunsFile task image end run → RunsTask task run
  runs_task (variant.Ran conn) run it = record { anew = λ anew. let ran = it.anew anew in inr (ran.0, ran.1, ran.2.0); opened = λ other. inr (it.opened other) }
  runs_task (variant.Refused remains) run it = record {
    anew = λ anew. inl (it.rests, it.anew anew);
    opened = λ other. inl (it.rests, elim it.told [ inl told ↦ (store_failure told.0, each_refusal told.0, told.2) | inr dump ↦ loads_anew task dump.0 other ]);
  }
  runs_task (variant.NoFile start) run it = absurd it

-- what was said of a refusal is reported
pub refused_onto : {T D : Type 0} {g : Ghosts D} (image : Image) (fault : StoreFault) (rest : Remains T D g) (run : Run) (held : Contents) → Refuses held image fault rest → Reports (store_failure fault) run.before run.after run.status → RefusedOnto held image rest run
refused_onto image fault rest run Nothing it reports = (fails_at_once fault run it.0 reports, it.1)
refused_onto image fault rest run (Database trees) it reports = record {
  state = λ s leaves. fails_at_once fault run (it.state s leaves) reports;
  other = λ others. fails_at_once fault run (it.other others) reports;
  kept = it.kept;
}
refused_onto image fault rest run Unfit it reports = fails_at_once fault run it reports

-- what was said of opening a database is said of the run over it
pub ran_onto : {D : Type 0} {g : Ghosts D} (task : Task) (world : World (FileStore D g)) (conn : Held (FileStore D g)) (run : Run) (held : Contents) → Opens held world
    → ((m : Moment) → Stands over_files world (Works m) → RunsIn (file_state conn) task m run)
    → (only_reads task.action ≡ true → (found : Trees) → (file_state conn).may_leave found → (store_of over_files world).may_leave found) → RanOnto task held conn run
ran_onto task world conn run Nothing none runs keeps = none
ran_onto task world conn run (Database trees) it runs keeps = record {
  ours = it.ours;
  sound = it.sound;
  runs = λ m is. let opens = it.present m is in (opens.0, opens.1, runs opens.0 opens.2);
  still = λ reads found may. it.kept found (keeps reads found may);
}
ran_onto task world conn run Unfit none runs keeps = none

-- ---- a file in which a world is made

module _ {D : Type 0} {g : Ghosts D} (task : Task) (image : Image) (run : Run) (anew : begins_anew task ≡ true) where
  -- the world was made, and the task ran over it
  pub made_over : (rows : Maps) (world : World (FileStore D g)) (conn : Held (FileStore D g)) → BeginsFrom task.action run.given.text rows → RunsMade (file_state conn) task rows run
      → (HasCleanDisk (file_state conn) → HasCleanDisk (store_of over_files world))
      → ((trees : Trees) → HoldsTrees image trees → HasAnyTable trees → HasCleanDisk (store_of over_files world) → ⊥)
      → (HasCleanDisk (store_of over_files world) → HoldsNoTable image) → RanOver task image conn run
  made_over rows world conn begins ran early occupied room = record {
    anew = λ _. (rows, begins, ran);
    room = λ _ clean. room (early clean);
    occupied = λ trees _ holds any clean. occupied trees holds any (early clean);
    over = λ other held holds. never_anew task other anew;
    sound = λ other. never_anew task other anew;
    opened = λ other. never_anew task other anew;
  }

module _ {T D : Type 0} {g : Ghosts D} (task : Task) (image : Image) (run : Run) (anew : begins_anew task ≡ true) where
  -- it couldn't be made, and that was reported
  pub unmade_over : (fault : StoreFault) (rest : Remains T D g) (rows : Maps) → BeginsFrom task.action run.given.text rows → run.given.ports.rests → Reports (store_failure fault) run.before run.after run.status
      → IsUnmadeIn (λ found. LeavesAsMade found rows) image fault rest
      → (IsOpenable image → IsCleanRemains rest → HasCauseOr (StopsMaking image fault) (IsDenied run.given.denies task.file.now) fault rest) → RefusedOver task image rest run
  unmade_over fault rest rows begins rests reports unmade cause = record {
    anew = λ _. let fails = fails_at_once fault run unmade.of_store reports in (fails.0, inl fails.1, fails.2);
    unfit = λ _ openable clean. inl (fault, cause openable clean, reports);
    over = λ other held holds. never_anew task other anew;
    left = moment_kept (λ found. LeavesAsMade found rows) image fault rest unmade;
    spared = λ trees _ holds any. table_kept (λ found. LeavesAsMade found rows) image fault rest unmade trees holds any;
    unmade = λ trees _ holds clean. keeps_more (λ found. (found ≡ trees) ⊎ LeavesAsMade found rows) (λ found. (found ≡ trees) ⊎ LeavesNew task run found) (λ found kept. elim kept [ inl same ↦ inl same | inr leaves ↦ inr (rows, begins, leaves) ]) image rest (trees_or_made (λ found. LeavesAsMade found rows) image fault rest unmade trees holds clean);
    spares = λ some half. unmade.spared (λ none. elim none [ inl nothing ↦ some nothing | inr begun ↦ half anew begun ]);
    fresh = λ _ none clean. blank_more (λ found. LeavesAsMade found rows) (LeavesNew task run) (λ found leaves. (rows, begins, leaves)) image rest (unmade.kept Empty none clean);
    rests = rests;
    told = inl (fault, unmade.stopped, reports);
    cause = λ other. never_anew task other anew;
  }

  -- its dump gave none, and no file was opened
  pub ungiven_over : (start : T) (failure : Failure) → IsTrue (is_load task.action) × RefusesTask run.given task.action failure → run.given.ports.rests → Reports failure run.before run.after run.status
      → RefusedOver {T = T} {D = D} {g = g} task image (remains.Untouched start) run
  ungiven_over start failure refused rests reports = record {
    anew = λ _. (failure, inr refused, reports);
    unfit = λ _ openable clean. inr (refused.0, (start, refl), failure, refused.1, reports);
    over = λ other held holds. never_anew task other anew;
    left = λ m holds clean. record { trees = holds.trees; holds = holds.holds; such = (m, inl refl, holds.such) };
    spared = λ trees _ holds any clean. record { trees = trees; holds = holds; such = refl };
    unmade = λ trees _ holds clean. record { trees = trees; holds = holds; such = inl refl };
    spares = λ some half clean. tt;
    fresh = λ _ none clean. inl none;
    rests = rests;
    told = inr (refused.0, (start, refl), failure, refused.1, reports);
    cause = λ other. never_anew task other anew;
  }
