-- The law of the program, as two runs of it.
use Rattle.std.specs.{Prelude.{◌≡◌, ◌⊎◌, true, ℕ, List, codes, ⊤}, Str.{bytes_eq}}
use Rattle.sqlite_disk.specs.declared.Disk.{Ghosts}
use Rattle.moo_cli.specs.{declared.task.Task.{Task}, Tasks.{NamesTask}}
use Rattle.moo_files.specs.{Remains.{IsCleanRemains}, declared.remains.Remains.{Remains}}
use Rattle.moo_run_lines.specs.{Lines.{Reports}, declared.failure.Failure.{Failure}}
use Rattle.moo_run.specs.{Given.{Run}, Run.{EndsUsage}, Ends.{IsClosedEnd}, declared.ends.Ends.{Ends}}
use Rattle.moo_run_laws.specs.FileRuns.{FileRun, run_of, IsFoundAfter, IsFoundOnCleanDisk, HandsOver}
use Rattle.moo_run.specs.declared.ends.Ends.TheVariants as variant
use Rattle.moo_run.specs.declared.session.HasRun as HasRun

module _ {T D : Type 0} {disk : Ghosts D} where
  -- If no world of the words' file was opened or made, a failure is told, with its status. If they have no file, they name a task on
  -- `:memory:`, or a mistake is told, or that memory ran out.
  abbrev pub TellsEnd : List (List ℕ) → Ends T D disk → Run → Type 0
  TellsEnd words (variant.Ran conn) run = ⊤
  TellsEnd words (variant.Refused rest) run = (failure : Failure) × Reports failure run.before run.after run.status
  TellsEnd words (variant.NoFile start) run =
      ((task : Task) × NamesTask words task × (bytes_eq task.file.now (codes ":memory:") ≡ true))
      ⊎ EndsUsage words run.before run.after run.status

module _ {S T D : Type 0} {g : HasRun.Ghosts S T D} {disk : Ghosts D} where
  -- A run told how it ended, and then its file was closed.
  abbrev pub EndsClosed : FileRun g disk → Type 0
  EndsClosed r = TellsEnd r.words r.ends (run_of r) × IsClosedEnd r.ends r.closed

module _ {S T D N U E : Type 0} (g : HasRun.Ghosts S T D) {disk : Ghosts D} (h : HasRun.Ghosts N U E) {other : Ghosts E} where
  -- Two runs, each of which told how it ended, and then its file was closed. If the disk of the first returned what was written until then,
  -- and the files of the second held what may be found after the first, the first leads its file to a moment from which the second goes on.
  abbrev pub RunsTwice : (Ends T D disk → FileRun g disk) → (Ends U E other → FileRun h other) → Type 0
  RunsTwice run_by next_by = (ends : Ends T D disk) × (next_ends : Ends U E other)
      × (let first = run_by ends in let next = next_by next_ends in
      EndsClosed first × EndsClosed next
      × (IsCleanRemains first.closed → IsFoundAfter first next.image → HandsOver first next))

  -- Two runs, of which the first stopped before its file was closed, and the second told how it ended and closed its file. The first leads
  -- its file to a moment from which the second goes on, if its disk returned what was written until the stop, and the files of the second
  -- held what a crash left; or if there is some outcome of closing, `closed`, until which the disk was clean, and the bytes may be found
  -- after that.
  abbrev pub StopsAndRuns : (Remains T D disk → FileRun g disk) → (Ends U E other → FileRun h other) → Type 0
  StopsAndRuns run_by next_by = (next_ends : Ends U E other)
      × (let next = next_by next_ends in
      EndsClosed next
      × ((closed : Remains T D disk) → let first = run_by closed in IsFoundOnCleanDisk first next.image → HandsOver first next))
