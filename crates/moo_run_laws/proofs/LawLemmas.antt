-- From a run over a file to what is found after it, and to the run over that.
use Rattle.std.proofs.Common.{◌≡◌, ◌≢◌, inl, inr, ℕ, zero, suc, List, length, refl, sym, ap, subst, arith}
use Rattle.std.proofs.lemmas.Bool.{false_from_ne_true}
use Rattle.std.specs.Prelude.{IsSome}
use Rattle.sqlite_disk.specs.declared.Disk.{Ghosts}
use Rattle.sqlite_wal.specs.Recovery.{Image}
use Rattle.sqlite_store.specs.declared.store.FileStore.{FileStore}
use Rattle.sqlite.{specs.State.{State as Database, HasCleanDisk}, specs.Schema.{Schema}, specs.Tree.{Trees}, specs.Held.{Held, AreDatabases}, specs.Files.{IsCleanLeft, file_state}, specs.declared.file.Leftover.{Leftover}}
use Rattle.sqlite.specs.declared.file.Leftover.TheVariants as left
use Rattle.moo_rows.specs.Maps.{Maps}
use Rattle.moo_tables.proofs.SchemaLemmas.{one_schema}
use Rattle.moo_tables_rows.{specs.declared.version.Version.{Version}, specs.declared.version.Version.TheVariants.{First, Second}, specs.Tables.{schema_of, no_schema}}
use Rattle.moo_store.{specs.Moment.{Moment, AreTreesOf, BecomesPresent, IsSparedMoment}, specs.OpeningRows.{AreMigrated}, specs.Place.{Place, MayBeLeft, CrashLeavesAt, moment_of}, proofs.Causes.{of_store, says_nothing}}
use Rattle.moo_files.{specs.Contents.{HoldsSuch, HoldsMoment, HasAnyTable, HasEarlierTables, IsLeftBy}, specs.Causes.{HasCauseOr, StopsOver, IsDenied}, specs.Remains.{IsCleanRemains, KeepsSuch}, specs.Closing.{IsLeftOf, IsClosedFrom}, specs.declared.remains.Remains.{Remains}, specs.Stop.{AreNumbered}, specs.Opened.{Database as a_database}}
use Rattle.moo_files.{proofs.AgainLemmas.{held_after}, proofs.OpenedLemmas.{over_more}, proofs.RemainsLemmas.{keeps_closed}, proofs.StopLemmas.{left_by_disk, left_by_store, such_by_bytes, places_are_databases, spared_are_databases}}
use Rattle.moo_files.specs.declared.remains.Remains.TheVariants as remains
use Rattle.moo_cli.specs.declared.{task.Task.{Task}, task.Action.TheVariants.{Serve}, task.Service.{Service}}
use Rattle.moo_run_lines.specs.declared.failure.Failure.{Failure}
use Rattle.moo_run.{specs.Given.{Run}, specs.Run.{BeginsFrom, RunsIn, StopsTask}, specs.Ends.{RefusesTables, FailsFor, EndsWith}, specs.declared.ends.Ends.{Ends}}
use Rattle.moo_run.specs.declared.session.HasRun as HasRun
use Rattle.moo_run.specs.declared.ends.Ends.TheVariants as variant
use Rattle.moo_run_laws.{specs.Again.{StartsFrom, TakesUp, IsLeftAfter, IsFoundOf, IsFoundIn}, specs.FileRuns.{FileRun, run_of, IsFileRun, IsFoundOnCleanDisk, GoesTo, ServedTo}, proofs.LedLemmas.{known_at}}

-- ---- a service

served_stops : (service : Service) (m : Moment) (end : Place) (failure : Failure) (Clean : Type 0) (run : Run) → StopsTask (Serve service) m end failure Clean run → ServedTo run.given.ports service.port m end
served_stops service m end failure Clean run (inl refused) = inl (refused.1, refused.2)
served_stops service m end failure Clean run (inr (inl none)) = inr (0, 0, none.1)
served_stops service m end failure Clean run (inr (inr all)) = inr (all.1.0, all.1.1, all.1.3)

-- what a service does leads to its end
pub serves_to : (store : Database) (task : Task) (service : Service) (m : Moment) (run : Run) → task.action ≡ Serve service → (ran : RunsIn store task m run) → ServedTo run.given.ports service.port m ran.0.end
serves_to store task service m run is ran =
    let writes = rw is at ran.0.writes in
    elim writes [
      | inl done ↦ inr (done.1.0, done.1.1, done.1.3)
      | inr stops ↦ served_stops service m ran.0.end stops.0 (HasCleanDisk store) (record run { after = stops.1 }) stops.2
    ]

-- ---- moments

-- tables of ours are tables
some_tables : (version : Version) → no_schema ≢ schema_of version
some_tables First none = let odd : zero ≡ suc 4 = ap (λ (schema : Schema). length schema.tables) none in absurd cc
some_tables Second none = let odd : zero ≡ suc 7 = ap (λ (schema : Schema). length schema.tables) none in absurd cc

pub any_at_moment : (m : Moment) (trees : Trees) → AreTreesOf m trees → HasAnyTable trees
any_at_moment m trees it none = let c = it.1.0 in some_tables c.tables.version (one_schema c.tables.version trees no_schema it.1.2.sound none)

known_present : (m now : Moment) (trees : Trees) → AreTreesOf m trees → BecomesPresent m now → IsSome now.cells
known_present m now trees it becomes = let there = rw it.1.1 at becomes.1 in rw there.1 refl

-- a database of the moment, or of that to which it was migrated
abbrev KeepsMoment : Moment → Trees → Type 0
KeepsMoment m trees = (end : Moment) × IsSparedMoment m end × AreTreesOf end trees

-- a moment that is refused was refused for a cause
fails_for : {T D : Type 0} {g : Ghosts D} (path : List ℕ) (image : Image) (rest : Remains T D g) (run : Run) (m : Moment) (holds : HoldsMoment image m) → RefusesTables path holds.such.1.0.tables rest run → FailsFor path image rest run
fails_for path image rest run m holds (fault, says, reports) =
    let tables = holds.such.1.0.tables in
    let Cause = HasCauseOr (StopsOver (AreMigrated tables) fault) (IsDenied run.given.denies path) fault rest in
    let earlier : AreMigrated tables → HoldsSuch HasEarlierTables image = λ migrated. record { trees = holds.trees; holds = holds.holds; such = (tables.version, migrated.0, holds.such.1.2.sound) } in (
      fault,
      of_store Cause tables m.rows fault holds.such.1.3 holds.such.0 says,
      over_more (AreMigrated tables) (HoldsSuch HasEarlierTables image) (IsDenied run.given.denies path) fault rest earlier (says_nothing Cause tables m.rows fault holds.such.1.3 holds.such.0 says),
      reports,
    )

-- ---- what is found of files

-- what is found after a connection was closed is what a crash might have left before
found_left : {D : Type 0} {g : Ghosts D} (T : Type 0) (store : Database) (rest : Leftover D g) (next : Image) → AreDatabases store.may_leave → IsCleanLeft rest → IsLeftOf store rest
    → IsFoundIn {T = T} (remains.Leftover rest) next → IsLeftBy store next
found_left T store (left.Files now) next sound clean of (inl is) = subst (IsLeftBy store) (sym is) of.0
found_left T store (left.Files now) next sound clean of (inr out) = of.1 next out
found_left T store (left.Unopened now) next sound clean of found = absurd of
found_left T store (left.Store now) next sound clean of found =
    let it = left_by_store now next clean (λ trees may. sound trees (of trees may)) found in
    record { trees = it.trees; holds = it.holds; such = of it.trees it.such }

module _ {T D : Type 0} {g : Ghosts D} where
  -- before files were closed the disk was clean, if it is after that, and their trees were numbered
  closed_early : (was now : Remains T D g) → IsClosedFrom was now → IsCleanRemains now → IsCleanRemains was × AreNumbered was
  closed_early (remains.Leftover rest) now is clean = (subst IsCleanRemains is clean, tt)
  closed_early (remains.Connection conn) now (rest, is, copied, closes) clean = let it = closes (subst IsCleanRemains is clean) in (it.0, it.2)
  closed_early was now is clean = (tt, tt)

  -- files that are closed have no connection
  closed_numbered : (was now : Remains T D g) → IsClosedFrom was now → AreNumbered now
  closed_numbered (remains.Connection conn) now (rest, is, copied, closes) = subst AreNumbered (sym is) tt
  closed_numbered was now is = subst AreNumbered (sym is) tt

  -- what a crash left of files that kept such a database holds such a one
  still_such : (P : Trees → Type 0) (image : Image) (rest : Remains T D g) (next : Image) → KeepsSuch P image rest → HoldsSuch P image → IsLeftAfter image rest next → HoldsSuch P next
  still_such P image (remains.Leftover (left.Files now)) next keeps holds left = keeps next left
  still_such P image (remains.Leftover (left.Unopened now)) next keeps holds left = (keeps next left.0).1 left.1
  still_such P image (remains.Leftover (left.Store now)) next keeps holds left = record { trees = left.trees; holds = left.holds; such = keeps left.trees left.such }
  still_such P image (remains.Connection conn) next keeps holds left = record { trees = left.trees; holds = left.holds; such = keeps left.trees left.such }
  still_such P image rest next keeps holds is = subst (HoldsSuch P) (sym is) holds

  -- and so does any that is found of them
  such_after : (P : Trees → Type 0) (image : Image) (rest : Remains T D g) (next : Image) → AreDatabases P → IsCleanRemains rest → AreNumbered rest → KeepsSuch P image rest → HoldsSuch P image → IsFoundOf image rest next
      → HoldsSuch P next
  such_after P image rest next sound clean numbered keeps holds (inl bytes) = such_by_bytes P image rest next sound clean numbered holds keeps bytes
  such_after P image rest next sound clean numbered keeps holds (inr left) = still_such P image rest next keeps holds left

-- ---- the next run

-- words over a file that holds a moment take it up
pub takes_up : {S T D : Type 0} {g : HasRun.Ghosts S T D} {disk : Ghosts D} (r : FileRun g disk) (ends : Ends T D disk) → IsFileRun (record r { ends = ends }) → (m : Moment) → HoldsMoment r.image m → TakesUp r.words r.image m ends (run_of r)
takes_up r (variant.Ran conn) (inl (task, named, alone, runs, it)) m holds =
    inl (task, named, λ other clean. ((it.file (false_from_ne_true _ it.memory)).over other (a_database holds.trees) holds.holds clean).runs m holds.such)
takes_up r (variant.Refused rest) (inl (task, named, alone, runs, it)) m holds = inl (
  task,
  named,
  λ other clean.
      fails_for task.file.now r.image rest (run_of r) m holds
      ((it.file (false_from_ne_true _ it.memory)).cause other holds.such.1.0.tables (record { trees = holds.trees; holds = holds.holds; such = holds.such.1.2 }) clean),
)
takes_up r (variant.NoFile start) (inl (task, named, alone, runs, it)) m holds = inl (task, named, λ other. absurd (it.file (grind arith)))
takes_up r ends (inr (some, rests, usage, none)) m holds = inr (some, usage, none)

-- and then this is so of each moment that is found
module _ {S T D : Type 0} {g : HasRun.Ghosts S T D} {disk : Ghosts D} (r : FileRun g disk) (next : Image) (Then : Moment → Type 0) (goes : (t : Moment) → HoldsMoment next t → Then t) where
  -- from a moment whose cells are known a run leads to one that is found after it
  leads_found : (conn : Held (FileStore D disk)) (task : Task) (m : Moment) → IsSome m.cells → RunsIn (file_state conn) task m (run_of r) → HasCleanDisk (file_state conn) → IsFoundOnCleanDisk (record r { ends = variant.Ran conn }) next
      → (ran : RunsIn (file_state conn) task m (run_of r)) × (t : Moment) × MayBeLeft ran.0.end t × Then t
  leads_found conn task m some ran early found =
      let known = known_at m ran.0.end ran.0.leads some in
      let leaves = ran.1 early in
      let left = left_of ran.0.end known leaves found in
      let lies = held_after (file_state conn) ran.0.end next left.trees ran.0.good known leaves left.such left.holds in
      (ran, lies.0, lies.1, goes lies.0 lies.2)
    where
      left_of : (end : Place) → IsSome (moment_of end).cells → CrashLeavesAt (file_state conn) end → IsFoundOnCleanDisk (record r { ends = variant.Ran conn }) next → IsLeftBy (file_state conn) next
      left_of end known leaves (inl crash) = crash.1
      left_of end known leaves (inr (from, clean, inl left)) = left
      left_of end known leaves (inr ((rest, is, copied, closes), clean, inr (inl lies))) =
          let both = closes (subst IsCleanRemains is clean) in
          left_by_disk conn next both.0 both.2 (places_are_databases (file_state conn) end known leaves) lies
      left_of end known leaves (inr ((rest, is, copied, closes), clean, inr (inr found))) =
          let both = closes (subst IsCleanRemains is clean) in
          found_left T (file_state conn) rest next (places_are_databases (file_state conn) end known leaves) (subst IsCleanRemains is clean) both.1 (subst (λ it. IsFoundIn it next) is found)

  -- from where a task started it leads to a moment that is found after it, and its disk was clean
  pub starts_by : (conn : Held (FileStore D disk)) (task : Task) → EndsWith {T = T} task r.image (variant.Ran conn) (run_of r) → IsFoundOnCleanDisk (record r { ends = variant.Ran conn }) next
      → HasCleanDisk (file_state conn) × StartsFrom task r.image (run_of r).given (λ m. (ran : RunsIn (file_state conn) task m (run_of r)) × (t : Moment) × MayBeLeft ran.0.end t × Then t)
  starts_by conn task it found =
      let early = was_clean found in
      let over = it.file (false_from_ne_true _ it.memory) in (
        early,
        (
          (λ other m holds.
              let ran = (over.over other (a_database holds.trees) holds.holds early).runs m holds.such in
              (ran.0, ran.1, leads_found conn task ran.0 (known_present m ran.0 holds.trees holds.such ran.1) ran.2 early found)),
          (λ anew.
              let begun = over.anew anew in
              let made = begun.2.1 early in
              let some : IsSome made.0.cells = rw made.1.are refl in
              (made.0, some, subst (λ (rows : Maps). BeginsFrom task.action (run_of r).given.text rows) (sym made.1.same) begun.1, leads_found conn task made.0 some made.2 early found)),
        ),
      )
    where
      was_clean : IsFoundOnCleanDisk (record r { ends = variant.Ran conn }) next → HasCleanDisk (file_state conn)
      was_clean (inl crash) = crash.0
      was_clean (inr (from, clean, found)) = (closed_early (remains.Connection conn) r.closed from clean).0

  -- files whose words were refused hold their moment still
  refused_found : (was : Remains T D disk) → IsFoundOnCleanDisk (record r { ends = variant.Refused was }) next → (m : Moment) → HoldsMoment r.image m → (IsCleanRemains was → KeepsSuch (KeepsMoment m) r.image was)
      → (end : Moment) × IsSparedMoment m end × Then end
  refused_found was found m holds keeps =
      let it = by (record { trees = holds.trees; holds = holds.holds; such = (m, inl refl, holds.such) }) found in
      (it.such.0, it.such.1, goes it.such.0 (record { trees = it.trees; holds = it.holds; such = it.such.2 }))
    where
      by : HoldsSuch (KeepsMoment m) r.image → IsFoundOnCleanDisk (record r { ends = variant.Refused was }) next → HoldsSuch (KeepsMoment m) next
      by holds (inl (clean, left)) = still_such (KeepsMoment m) r.image was next (keeps clean) holds left
      by holds (inr (from, clean, inl found)) =
          let early = closed_early was r.closed from clean in
          such_after (KeepsMoment m) r.image was next (spared_are_databases m) early.0 early.1 (keeps early.0) holds found
      by holds (inr (from, clean, inr found)) =
          such_after (KeepsMoment m) r.image r.closed next (spared_are_databases m) clean (closed_numbered was r.closed from) (keeps_closed (KeepsMoment m) r.image was r.closed from keeps clean) holds found

  pub goes_by : (ends : Ends T D disk) → IsFileRun (record r { ends = ends }) → IsFoundOnCleanDisk (record r { ends = ends }) next → GoesTo (record r { ends = ends }) Then
  goes_by (variant.Ran conn) (inl (task, named, alone, runs, it)) found = (task, named, (starts_by conn task it found).1)
  goes_by (variant.Refused was) (inl (task, named, alone, runs, it)) found = λ m holds. refused_found was found m holds ((it.file (false_from_ne_true _ it.memory)).left m holds)
  goes_by (variant.NoFile start) over found = λ m holds. refused_found (remains.Untouched start) found m holds (λ clean. record { trees = holds.trees; holds = holds.holds; such = (m, inl refl, holds.such) })
  goes_by ends (inr (some, rests, usage, none)) found = absurd none
