-- The outcome of a run over a file, by what the file holds.
use Rattle.std.specs.{Prelude.{IsTrue, ◌≡◌, ◌<◌, ◌⊎◌, ℕ, true, false, List, length, codes, ⊤}, Str.{bytes_eq}}
use Rattle.sqlite_disk.specs.declared.Disk.{Ghosts}
use Rattle.sqlite_store.specs.declared.store.FileStore.{FileStore}
use Rattle.sqlite_wal.specs.Recovery.{Image}
use Rattle.sqlite.specs.{Tree.{Trees}, State.{HasCleanDisk}, Held.{Held}, Files.{IsNothing, file_state}}
use Rattle.moo_rows.specs.Maps.{Maps}
use Rattle.moo_world.specs.{Rows.{IsGood}, Judge.{State}}
use Rattle.moo_tables_rows.specs.{Tables.{Tables}, Inside.{Leaves}}
use Rattle.moo_cells.specs.Shows.{ShowsRows}
use Rattle.moo_store.specs.OpeningRows.{SaysOr, AreMigrated, IsOfStore}
use Rattle.moo_store.specs.{Moment.{Moment, rows_alone, AreTreesOf, BecomesPresent, IsSparedMoment}, NewTables.{LeavesAsMade}}
use Rattle.moo_store.specs.{States.{LeavesState}, declared.fault.StoreFault.{StoreFault}}
use Rattle.moo_files.specs.Opened.{Contents, Nothing, Database, Unfit, Hold}
use Rattle.moo_files.specs.Contents.{HoldsTrees, HoldsTables, HoldsMoment, HoldsSuch, HoldsNoDatabase, HoldsNoTable, HasOtherTables}
use Rattle.moo_files.specs.Contents.{HasEarlierTables, HasAnyTable, IsKept, ReadsAsOurs}
use Rattle.moo_files.specs.{Remains.{IsCleanRemains, MayStopAs, Spares, KeepsSuch, KeepsNothingBut, StillHoldsTrees}, Blank.{IsBlank}}
use Rattle.moo_files.specs.{Causes.{HasCauseOr, StopsOver, IsDenied, IsOpenable}, Making.{StopsMaking}, Closing.{IsClosedFrom}}
use Rattle.moo_files.specs.declared.remains.Remains.{Remains}
use Rattle.moo_files.specs.declared.remains.Remains.TheVariants as remains
use Rattle.moo_cli.specs.{declared.task.Task.{Task}, Tasks.{NamesTask, NamesAlone}}
use Rattle.moo_run_lines.specs.{Lines.{Reports, store_failure}, declared.failure.Failure.{Failure}}
use Rattle.moo_run.specs.Given.{Run}
use Rattle.moo_run.specs.Run.{begins_anew, only_reads, is_load, RefusesTask, BeginsFrom, FailsToBegin, RunsIn, RunsMade, RunsUnseen}
use Rattle.moo_run.specs.{Run.{RunsTask, FailsAtOnce, EndsUsage}, declared.ends.Ends.{Ends}}
use Rattle.moo_run.specs.declared.ends.Ends.TheVariants as variant

-- a database of the new world that the task begins with, each row in its printed cells
abbrev pub LeavesNew : Task → Run → Trees → Type 0
LeavesNew task run trees = (rows : Maps) × BeginsFrom task.action run.given.text rows × LeavesAsMade trees rows

module _ {D : Type 0} {g : Ghosts D} where
  -- A task ran over this database: its tables are ours, and show good rows. It ran from the moment that they show, brought to the present
  -- version. After one that only reads, a crash leaves the database, each cell as it was; or what that was migrated to.
  pub record RanOn (task : Task) (trees : Trees) (conn : Held (FileStore D g)) (run : Run) : Type 0 where
    pub ours : ¬ HasOtherTables trees
    pub sound : (tables : Tables) → Leaves trees tables → (rows : Maps) × IsGood rows × ShowsRows tables rows
    pub runs : (m : Moment) → AreTreesOf m trees → (now : Moment) × BecomesPresent m now × RunsIn (file_state conn) task now run
    pub still : only_reads task.action ≡ true → (found : Trees) → (file_state conn).may_leave found → IsKept trees found

  -- a task that takes up its file runs over a database of ours, and over nothing else
  abbrev pub RanOnto : Task → Contents → Held (FileStore D g) → Run → Type 0
  RanOnto task Nothing conn run = ⊥
  RanOnto task (Database trees) conn run = RanOn task trees conn run
  RanOnto task Unfit conn run = ⊥

  -- the task ran over the file that held this image
  pub record RanOver (task : Task) (image : Image) (conn : Held (FileStore D g)) (run : Run) : Type 0 where
    -- it begins with a new world, and runs from that, which is made only if the files have room for it: never over a world or a table
    pub anew : begins_anew task ≡ true →
        (rows : Maps) × BeginsFrom task.action run.given.text rows × RunsMade (file_state conn) task rows run
    pub room : begins_anew task ≡ true → HasCleanDisk (file_state conn) → HoldsNoTable image
    pub occupied : (trees : Trees) → begins_anew task ≡ true → HoldsTrees image trees → HasAnyTable trees →
        HasCleanDisk (file_state conn) → ⊥
    -- or it takes up what the file holds, and runs from good rows whatever the file holds
    pub over : begins_anew task ≡ false → (held : Contents) → Hold image held → HasCleanDisk (file_state conn) → RanOnto task held conn run
    pub sound : begins_anew task ≡ false → HasCleanDisk (file_state conn) → ReadsAsOurs image
    pub opened : begins_anew task ≡ false → (rows : Maps) × IsGood rows × RunsUnseen task (rows_alone rows) run

module _ {T D : Type 0} {g : Ghosts D} where
  -- there is a file: the task ran over its world, or no world was opened or made
  abbrev pub MatchFile : Ends T D g → (Held (FileStore D g) → Type 0) → (Remains T D g → Type 0) → Type 0
  MatchFile (variant.Ran conn) Ran Refused = Ran conn
  MatchFile (variant.Refused remains) Ran Refused = Refused remains
  MatchFile (variant.NoFile start) Ran Refused = ⊥

  -- The words have no file, and none was opened: the start is unspent.
  abbrev pub HasNoFile : Ends T D g → Type 0
  HasNoFile (variant.NoFile start) = ⊤
  HasNoFile ends = ⊥

  -- it fails at once, for a cause, over the file of this path, which held this image
  abbrev pub FailsFor : List ℕ → Image → Remains T D g → Run → Type 0
  FailsFor path image rest run =
      (fault : StoreFault) × IsOfStore fault
      × HasCauseOr (StopsOver (HoldsSuch HasEarlierTables image) fault) (IsDenied run.given.denies path) fault rest
      × Reports (store_failure fault) run.before run.after run.status

  -- It fails at once over the file of this path, which held these tables. The line tells what is wrong with them, or it has a cause.
  abbrev pub RefusesTables : List ℕ → Tables → Remains T D g → Run → Type 0
  RefusesTables path tables rest run = (fault : StoreFault)
      × SaysOr (HasCauseOr (StopsOver (AreMigrated tables) fault) (IsDenied run.given.denies path) fault rest) tables fault
      × Reports (store_failure fault) run.before run.after run.status

  -- files that were never opened: the start is unspent
  abbrev pub IsUntouched : Remains T D g → Type 0
  IsUntouched left = (start : T) × (left ≡ remains.Untouched start)

  -- the dump of the task gives no world, and no file was opened
  abbrev pub GivesNoWorld : Task → Remains T D g → Run → Type 0
  GivesNoWorld task rest run = IsTrue (is_load task.action) × IsUntouched rest × (failure : Failure)
      × RefusesTask run.given task.action failure × Reports failure run.before run.after run.status

  -- The dump of the task gives no world. Or none was made in the file, which held this image, for a cause: the host denied it, its disk
  -- failed or refused, or memory ran out; or a row of the world is too big or has no number left. Over a connection that is open nothing
  -- is said of files without room for a world.
  abbrev pub FailsToMake : Task → Image → Remains T D g → Run → Type 0
  FailsToMake task image rest run =
      ((fault : StoreFault) × HasCauseOr (StopsMaking image fault) (IsDenied run.given.denies task.file.now) fault rest
      × Reports (store_failure fault) run.before run.after run.status)
      ⊎ GivesNoWorld task rest run

  -- This database is refused, and no damage is told of a state or of tables that aren't ours. It stays as it is, whatever its tables, or
  -- was migrated.
  pub record RefusedOn (trees : Trees) (image : Image) (rest : Remains T D g) (run : Run) : Type 0 where
    pub state : (s : State) → LeavesState trees s → FailsAtOnce run
    pub other : HasOtherTables trees → FailsAtOnce run
    pub kept : StillHoldsTrees image rest trees

  -- files without a sound database of ours are refused because the store failed or memory ran out
  abbrev pub RefusedOnto : Contents → Image → Remains T D g → Run → Type 0
  RefusedOnto Nothing image rest run = FailsAtOnce run × KeepsNothingBut (λ _. ⊥) image rest
  RefusedOnto (Database trees) image rest run = RefusedOn trees image rest run
  RefusedOnto Unfit image rest run = FailsAtOnce run

  -- no world was opened or made of the file that held this image, and this is what is left of the file
  pub record RefusedOver (task : Task) (image : Image) (rest : Remains T D g) (run : Run) : Type 0 where
    -- a new world can't be made, and if the files held nothing or a database, that has a cause
    pub anew : begins_anew task ≡ true → FailsToBegin task run
    pub unfit : begins_anew task ≡ true → IsOpenable image → IsCleanRemains rest → FailsToMake task image rest run
    -- or what the file holds isn't taken up
    pub over : begins_anew task ≡ false → (held : Contents) → Hold image held → IsCleanRemains rest → RefusedOnto held image rest run
    -- The file holds its moment still, or, of version 1, some moment of the same rows, and so does what a crash leaves of it; and if it
    -- held anything, sound or not, it is spared.
    pub left : (m : Moment) → HoldsMoment image m → IsCleanRemains rest →
        KeepsSuch (λ trees. (end : Moment) × IsSparedMoment m end × AreTreesOf end trees) image rest
    pub spares : ¬ IsNothing image → (begins_anew task ≡ true → ¬ IsBlank image) → IsCleanRemains rest → Spares image rest
    -- No new world is put in place of a table, but into a database without any, and then whole or not at all.
    pub spared : (trees : Trees) → begins_anew task ≡ true → HoldsTrees image trees → HasAnyTable trees → IsCleanRemains rest →
        KeepsSuch (λ found. found ≡ trees) image rest
    pub unmade : (trees : Trees) → begins_anew task ≡ true → HoldsTrees image trees → IsCleanRemains rest →
        KeepsSuch (λ found. (found ≡ trees) ⊎ LeavesNew task run found) image rest
    -- Of files that held nothing, or half a first page, a new world that can't be made leaves no more than they held, a database without
    -- rows, or that world, whole.
    pub fresh : begins_anew task ≡ true → HoldsNoDatabase image → IsCleanRemains rest → KeepsNothingBut (LeavesNew task run) image rest
    -- nothing is asked of the ports
    pub rests : run.given.ports.rests
    -- if no file was opened, the line tells why; or the start is unspent, and the line tells why a dump gives no world
    pub told : ((fault : StoreFault) × MayStopAs fault rest × Reports (store_failure fault) run.before run.after run.status)
        ⊎ GivesNoWorld task rest run
    -- Tables are refused for what is wrong with them. Else the host denied the file, its disk failed or refused, or memory ran out; only
    -- those of an earlier version that show a world may also be refused because they can't be migrated.
    pub cause : begins_anew task ≡ false → (tables : Tables) → HoldsTables image tables → IsCleanRemains rest →
        RefusesTables task.file.now tables rest run

  -- a task over the file that held this image
  abbrev pub RunsFile : Task → Image → Ends T D g → Run → Type 0
  RunsFile task image ends run = MatchFile ends (λ conn. RanOver task image conn run) (λ rest. RefusedOver task image rest run)

  -- a task on a file runs over it, and one on `:memory:` over none, whatever file there is
  pub record EndsWith (task : Task) (image : Image) (ends : Ends T D g) (run : Run) : Type 0 where
    pub file : bytes_eq task.file.now (codes ":memory:") ≡ false → RunsFile task image ends run
    pub memory : bytes_eq task.file.now (codes ":memory:") ≡ true → HasNoFile ends

  -- the outcome of the words if their file held this image
  abbrev pub RunsOver : List (List ℕ) → Image → Ends T D g → Run → Type 0
  RunsOver words image ends run =
      ((task : Task) × NamesTask words task × NamesAlone words task × RunsTask task run × EndsWith task image ends run)
      ⊎ ((1 < length words) × run.given.ports.rests × EndsUsage words run.before run.after run.status × HasNoFile ends)

  -- the file of a run was closed: what it then holds, and what a crash leaves of it, is what a crash might have left before
  abbrev pub IsClosedEnd : Ends T D g → Remains T D g → Type 0
  IsClosedEnd (variant.Ran conn) now = IsClosedFrom (remains.Connection conn) now
  IsClosedEnd (variant.Refused was) now = IsClosedFrom was now
  IsClosedEnd (variant.NoFile start) now = now ≡ remains.Untouched start

  -- the words were run so, and then the file was closed
  abbrev pub RunsClosed : List (List ℕ) → Image → Remains T D g → Run → Type 0
  RunsClosed words image closed run = (ends : Ends T D g) × RunsOver words image ends run × IsClosedEnd ends closed
