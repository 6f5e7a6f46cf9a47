-- What a run of the program writes, the status that it ends with, and the place to which it leads.
use Rattle.std.specs.Prelude.{◌≡◌, ◌<◌, ◌≤◌, ◌⊎◌, ◌==◌, ◌||◌, ℕ, Bool, true, false, IsTrue, ⊤, if◌then◌else◌, List, [], take, length}
use Rattle.std.specs.{Prelude.{Option, Some, None, IfSome, IsSome, Result, MatchResult, codes}, Str.{bytes_eq}, Io.KnownBytes.{Appends}}
use Rattle.clap.specs.{Kinds.{IsAmong}, declared.error.kind.ErrorKind.{ErrorKind}}
use Rattle.clap.specs.declared.error.kind.ErrorKind.TheVariants.{DisplayHelp, DisplayVersion}
use Rattle.sqlite.specs.{State.{State as Database, HasCleanDisk}, Tree.{Trees}, Store.{Ghosts}}
use Rattle.moo_world.specs.{declared.call.Batch.{Batch}, Rows.{IsGood}, Judge.{State, state_of}, ObjectLists.{objects_of}}
use Rattle.moo_rows.specs.{Maps.{Maps, Held as Rows}, Opening.{opening_maps}}
use Rattle.moo_files.specs.Making.{rows_made}
use Rattle.moo_tables_rows.specs.{Tables.{Tables}, Inside.{Rests}}
use Rattle.moo_cells.specs.Shows.{ShowsRows}
use Rattle.moo_text.specs.{declared.fault.TextFault.{TextFault}, declared.lines.TheConstants.{LONGEST_TEXT}, declared.reply.Answer.{Answer}}
use Rattle.moo_dump.specs.Dump.{dump as dump_of}
use Rattle.moo_load.specs.{OneState.{IsHeld}, RowsOf.{AreRowsOf}}
use Rattle.moo_store.specs.{declared.fault.StoreFault.{StoreFault}, declared.course.Course.{Course}}
use Rattle.moo_store.specs.{Stopping.{CompletesUntil, HaltsUntil, EndsEarly, AnswersBy}, Rehearsed.{RehearsesAt}}
use Rattle.moo_store.specs.{Moment.{Moment, state_of_moment, rows_alone}, NewTables.{IsMadeOf}, OpeningRows.{IsOfStore}}
use Rattle.moo_store.specs.{Place.{Place, Works, MayBeLeft, LeavesJust, CrashLeavesAt}, Kept.{World}, Moves.{Stands, RunsAt, AsksAt}}
use Rattle.moo_store.specs.World.{store_of}
use Rattle.moo_cli.specs.{declared.task.Task.{Task}, declared.task.Action.{Action}}
use Rattle.moo_cli.specs.declared.task.Action.TheVariants.{Init, Apply, Rehearse, Ask, Dump, Load, Check, Serve}
use Rattle.moo_run.specs.declared.texts.Manner.{Manner}
use Rattle.moo_run.specs.declared.texts.Manner.TheVariants as manner
use Rattle.moo_http.specs.{Lines.{listening_line}, Leading.{LeadsTo}, Turns.{Attendance, SaysAttended}}
use Rattle.moo_run.specs.Given.{Given, Run}
use Rattle.moo_cli.specs.Tasks.{NamesTask, NamesAlone, NamesNone, text_word, mistakes}
use Rattle.moo_run_lines.specs.Lines.{Reports, WritesLine, text_failure, store_failure, loaded_line, checked_line}
use Rattle.moo_run_lines.specs.declared.failure.Failure.{Failure}
use Rattle.moo_run_lines.specs.declared.failure.Failure.TheVariants.{Usage, NoFile, Store, Damaged, NewerVersion, NotADump, NoBatches, Read}
use Rattle.moo_run_lines.specs.declared.failure.Failure.TheVariants.{TooLong, Write, Port, OutOfMemory}

-- ---- tasks

-- `init` and `load` make the world of their file
abbrev pub makes_world : Action → Bool
makes_world Init = true
makes_world (Load dump) = true
makes_world action = false

-- the task begins with a new world: `init`, `load`, and each task on `:memory:`
abbrev pub begins_anew : Task → Bool
begins_anew task = makes_world task.action || bytes_eq task.file.now (codes ":memory:")

-- the world that it makes is read from a dump
abbrev pub is_load : Action → Bool
is_load (Load dump) = true
is_load action = false

-- the word for that dump
abbrev pub dump_word : Action → List ℕ
dump_word (Load dump) = dump.now
dump_word action = []

-- the word names the input
abbrev pub is_input : Option (List ℕ) → Bool
is_input None = false
is_input (Some word) = bytes_eq word (codes "-")

-- the task reads the input
abbrev pub reads_input : Task → Bool
reads_input task = is_input (text_word task.action)

-- the task reads the file of this path
abbrev pub ReadsFile : Task → List ℕ → Type 0
ReadsFile task path = (text_word task.action ≡ Some path) × (bytes_eq path (codes "-") ≡ false)

-- the input is as it was, unless the words name a task that reads it
abbrev pub KeepsInput : {R : Type 0} → List (List ℕ) → R → R → Type 0
KeepsInput words old new = ((task : Task) → NamesTask words task → reads_input task ≡ false) → new ≡ old

-- Once its world is open or made, the task only reads it: all but `apply` and `serve`. A rehearsal changes it in memory alone.
abbrev pub only_reads : Action → Bool
only_reads (Apply batches) = false
only_reads (Serve service) = false
only_reads action = true

-- the task answers connections
abbrev pub serves : Action → Bool
serves (Serve service) = true
serves action = false

-- The rows of the new world that a task begins with. Those of a well formed state whose dump is the text of the dump, byte for byte, if
-- that is known: properties and verbs are numbered from 1, in the order of the dump. Or the opening ones.
abbrev pub BeginsWith : Action → (List ℕ → Option (List ℕ)) → Maps → Type 0
BeginsWith (Load dump) text rows =
    IfSome (text dump.now) (λ bytes. dump_of (state_of rows) ≡ bytes) × IsHeld (state_of rows) × AreRowsOf (state_of rows) rows
BeginsWith action text rows = rows ≡ opening_maps

-- a task begins with a new world of these rows, and they are good
pub record BeginsFrom (action : Action) (text : List ℕ → Option (List ℕ)) (rows : Maps) : Type 0 where
  pub good : IsGood rows
  pub world : BeginsWith action text rows

-- the status of a text that was answered so far: 1 if it stopped, or if an answer is `fault` or `closed`
abbrev pub course_status : Course → ℕ
course_status course = if course.stopped then 1 else (if course.tally.lost == 0 then 0 else 1)

-- ---- a task over a world

-- A text of batches is answered to its end, and the status is 1 if an answer is `fault` or `closed`. Or it ends after the first answer
-- that isn't `accepted`, if it was to stop there, and the status is 1. A step says of one batch where it began, its answer, and where it
-- left off.
abbrev pub AnswersText : (Place → Batch → Answer → Place → Type 0) → Bool → Moment → Place → Option (List ℕ) → Option (List ℕ)
    → Option (List ℕ) → ℕ → Type 0
AnswersText step stop m end text old new status =
    ((batches lost : ℕ) × CompletesUntil step stop (Works m) end text old new batches lost × (status ≡ (if lost == 0 then 0 else 1)))
    ⊎ ((stop ≡ true) × (batches lost : ℕ) × EndsEarly step (Works m) end text old new batches lost × (status ≡ 1))

-- if the failure is that a file of batches or a dump can't be opened, it is the file of this path that can't
abbrev pub TellsLack : (List ℕ → Type 0) → List ℕ → Failure → Type 0
TellsLack lacks path failure = failure ≡ NoBatches → lacks path

-- The answering of a text stops at a fault; or its file can't be opened, and nothing is done.
abbrev pub StopsText : (Place → Batch → Answer → Place → Type 0) → Bool → Moment → Place → Failure → Option (List ℕ) → Option (List ℕ)
    → Option (List ℕ) → Type 0
StopsText step stop m end failure text old new =
    ((fault : TextFault) × (failure ≡ text_failure fault) × HaltsUntil step stop (Works m) end text old new fault)
    ⊎ ((failure ≡ NoBatches) × (end ≡ Works m) × (new ≡ old))

-- ---- what is done with a text of batches

-- a text that is run may change the world
abbrev pub changes_world : Manner → Bool
changes_world (manner.Apply options) = true
changes_world other = false

-- A text of batches is answered in a manner, from a moment to an end. Only a text that is run leads to another moment. Of a text that is
-- rehearsed what is written and the status are those of a run over the rows alone. A text that is asked is answered to its end.
abbrev pub AnswersAs : Manner → Moment → Place → Option (List ℕ) → Option (List ℕ) → Option (List ℕ) → ℕ → Type 0
AnswersAs (manner.Apply options) m end text old new status = AnswersText RunsAt options.stop m end text old new status
AnswersAs (manner.Rehearse options) m end text old new status =
    LeavesJust m end × ((last : Place) × AnswersText RehearsesAt options.stop (rows_alone m.rows) last text old new status)
AnswersAs manner.Ask m end text old new status = LeavesJust m end × AnswersText AsksAt false m (Works m) text old new status

-- what comes of the text of a manner, by the result of answering it
abbrev pub ComesOf : Manner → Moment → Place → Option (List ℕ) → Option (List ℕ) → Option (List ℕ) → Result Course TextFault → Type 0
ComesOf (manner.Apply options) m end text old new r = AnswersBy RunsAt options.stop (Works m) end text old new r
ComesOf (manner.Rehearse options) m end text old new r =
    LeavesJust m end × ((last : Place) × AnswersBy RehearsesAt options.stop (Works (rows_alone m.rows)) last text old new r)
ComesOf manner.Ask m end text old new r = LeavesJust m end × AnswersBy AsksAt false (Works m) (Works m) text old new r

-- The answering of a text in a manner stops with this failure, or its file can't be opened. Only a text that is run leads to another
-- moment.
abbrev pub StopsAs : Manner → Moment → Place → Failure → Option (List ℕ) → Option (List ℕ) → Option (List ℕ) → Type 0
StopsAs (manner.Apply options) m end failure text old new = StopsText RunsAt options.stop m end failure text old new
StopsAs (manner.Rehearse options) m end failure text old new =
    LeavesJust m end × ((last : Place) × StopsText RehearsesAt options.stop (rows_alone m.rows) last failure text old new)
StopsAs manner.Ask m end failure text old new = LeavesJust m end × StopsText AsksAt false m (Works m) failure text old new

-- a line of the number of a state and of how many objects it has
abbrev pub line_of : (ℕ → ℕ → List ℕ) → State → List ℕ
line_of line s = line s.seq (length (objects_of s.world))

-- The task is done, and this is its run. All but `apply` and `serve` leave what was there. A check found that the tables show the moment.
-- The connections that came to a port were served, so many of them, and their turns led to the end.
abbrev pub Done : Action → Moment → Place → Run → Type 0
Done Init m end run = LeavesJust m end × Appends run.before run.after (codes "created\n") × (run.status ≡ 0)
Done (Apply batches) m end run =
    AnswersAs (manner.Apply batches.options) m end (run.given.text batches.path.now) run.before run.after run.status
Done (Rehearse batches) m end run =
    AnswersAs (manner.Rehearse batches.options) m end (run.given.text batches.path.now) run.before run.after run.status
Done (Ask batches) m end run = AnswersAs manner.Ask m end (run.given.text batches.now) run.before run.after run.status
Done Dump m end run = LeavesJust m end × Appends run.before run.after (dump_of (state_of_moment m)) × (run.status ≡ 0)
Done (Load dump) m end run =
    LeavesJust m end × Appends run.before run.after (line_of loaded_line (state_of_moment m)) × (run.status ≡ 0)
Done Check m end run =
    LeavesJust m end × Appends run.before run.after (line_of checked_line (state_of_moment m)) × (run.status ≡ 0)
Done (Serve service) m end run =
    (text : List ℕ) × SaysAttended run.given.ports service.port service.count (Works m) end text
    × Appends run.before run.after text × (run.status ≡ 0)

-- a front of a text is written, since the writer failed or memory ran out
abbrev pub StopsIn : List ℕ → Failure → Option (List ℕ) → Option (List ℕ) → Type 0
StopsIn text failure old new = ((failure ≡ Write) ⊎ (failure ≡ OutOfMemory)) × (count : ℕ) × Appends old new (take count text)

-- The port can't be listened on, and nothing is done. Or what is said of the service stops in its first line, and no connection is taken
-- from the port; or after the last one.
abbrev pub StopsServing : Attendance → ℕ → ℕ → Moment → Place → Failure → Option (List ℕ) → Option (List ℕ) → Type 0
StopsServing ports port count m end failure old new =
    ((failure ≡ Port) × (end ≡ Works m) × ports.refuses port × (new ≡ old))
    ⊎ ((end ≡ Works m) × ports.attends port 0 0 (Works m) end × StopsIn (listening_line port) failure old new)
    ⊎ ((text : List ℕ) × SaysAttended ports port count (Works m) end text × StopsIn text failure old new)

-- A check found a fault; or the line stops. On a clean disk no check of known cells finds a damage.
abbrev pub StopsChecking : Moment → Place → Failure → Type 0 → Option (List ℕ) → Option (List ℕ) → Type 0
StopsChecking m end failure Clean old new = LeavesJust m end
    × (((fault : StoreFault) × (failure ≡ store_failure fault) × (IsSome m.cells → Clean → IsOfStore fault) × (new ≡ old))
    ⊎ StopsIn (line_of checked_line (state_of_moment m)) failure old new)

-- The task stops with this failure, and so much is written. All but `apply` and `serve` leave what was there.
abbrev pub StopsTask : Action → Moment → Place → Failure → Type 0 → Run → Type 0
StopsTask Init m end failure Clean run = LeavesJust m end × StopsIn (codes "created\n") failure run.before run.after
StopsTask (Apply batches) m end failure Clean run =
    StopsAs (manner.Apply batches.options) m end failure (run.given.text batches.path.now) run.before run.after
    × TellsLack run.given.lacks batches.path.now failure
StopsTask (Rehearse batches) m end failure Clean run =
    StopsAs (manner.Rehearse batches.options) m end failure (run.given.text batches.path.now) run.before run.after
    × TellsLack run.given.lacks batches.path.now failure
StopsTask (Ask batches) m end failure Clean run =
    StopsAs manner.Ask m end failure (run.given.text batches.now) run.before run.after × TellsLack run.given.lacks batches.now failure
StopsTask Dump m end failure Clean run = LeavesJust m end × StopsIn (dump_of (state_of_moment m)) failure run.before run.after
StopsTask (Load dump) m end failure Clean run =
    LeavesJust m end × StopsIn (line_of loaded_line (state_of_moment m)) failure run.before run.after
StopsTask Check m end failure Clean run = StopsChecking m end failure Clean run.before run.after
StopsTask (Serve service) m end failure Clean run =
    StopsServing run.given.ports service.port service.count m end failure run.before run.after

-- a crash leaves nothing that it couldn't leave before
abbrev pub LeavesNothingNew : Database → Database → Type 0
LeavesNothingNew old new = HasCleanDisk new → (trees : Trees) → new.may_leave trees → old.may_leave trees

-- What was done to a World at a moment leaves it at a place, to which accepted batches lead. If the disk returns what was written, it did
-- so before.
pub record EndsTask {S : Type 0} (g : Ghosts S) (was world : World S) (m : Moment) (End : Place → Type 0) : Type 0 where
  pub end : Place
  pub leads : LeadsTo m end
  pub clean : HasCleanDisk (store_of g world) → HasCleanDisk (store_of g was)
  pub stands : Stands g world end
  pub ends : End end

-- If the disk returned what was written, any tables that were at rest in the store of this World show its rows.
abbrev pub ShowsTables : {S : Type 0} → Ghosts S → World S → Database → Type 0
ShowsTables g world after = HasCleanDisk after → (tables : Tables) → Rests (store_of g world) tables → ShowsRows tables world.rows.maps

module _ {S : Type 0} (g : Ghosts S) (was world : World S) where
  -- A text of batches was answered over the World, from a moment, to its end or until it stopped; by its status. If its file can't be
  -- opened, this is so.
  abbrev pub EndsText : Type 0 → Manner → Moment → Option (List ℕ) → Option (List ℕ) → Option (List ℕ) → Result ℕ Failure → Type 0
  EndsText Lack how m text old new r = MatchResult r
      (λ status. EndsTask g was world m (λ end. AnswersAs how m end text old new status))
      (λ failure. EndsTask g was world m (λ end. StopsAs how m end failure text old new × (failure ≡ NoBatches → Lack)))

  -- The tables were tested over the World, from a moment, and a line was written; or that stopped.
  abbrev pub EndsCheck : Moment → Option (List ℕ) → Option (List ℕ) → Result ℕ Failure → Type 0
  EndsCheck m old new r = MatchResult r
      (λ status. EndsTask g was world m (λ end.
      LeavesJust m end × Appends old new (line_of checked_line (state_of_moment m)) × (status ≡ 0)))
      (λ failure. EndsTask g was world m (λ end. StopsChecking m end failure (HasCleanDisk (store_of g world)) old new))

  -- A task was done over the World, from a moment, or it stopped; by its status.
  abbrev pub RunsAction : Action → Moment → Run → Result ℕ Failure → Type 0
  RunsAction action m run r = MatchResult r
      (λ status. EndsTask g was world m (λ end. Done action m end (record run { status = status })))
      (λ failure. EndsTask g was world m (λ end. StopsTask action m end failure (HasCleanDisk (store_of g world)) run))

-- ---- a task over a connection

-- A task runs from a moment to an end: it is done, or stops and the failure is reported. The rows that a crash may leave are good.
pub record RunsFrom (task : Task) (m : Moment) (run : Run) (Clean : Type 0) : Type 0 where
  pub end : Place
  pub good : (t : Moment) → MayBeLeft end t → IsGood t.rows
  -- accepted batches, one after another, lead from the moment to whatever may be left
  pub leads : LeadsTo m end
  -- only a task that serves asks anything of the ports
  pub rests : serves task.action ≡ false → run.given.ports.rests
  pub writes :
      Done task.action m end run
      ⊎ ((failure : Failure) × (between : Option (List ℕ)) × StopsTask task.action m end failure Clean (record run { after = between })
      × Reports failure between run.after run.status)

-- A task runs from a moment to an end, and if the disk returns what was written, a crash of this store leaves what the end tells.
abbrev pub RunsIn : Database → Task → Moment → Run → Type 0
RunsIn store task m run = (ran : RunsFrom task m run (HasCleanDisk store)) × (HasCleanDisk store → CrashLeavesAt store ran.end)

-- a task runs from a moment to an end, and nothing is known of the store
abbrev pub RunsUnseen : Task → Moment → Run → Type 0
RunsUnseen task m run = RunsFrom task m run ⊥

-- a failure of the store, or memory ran out
abbrev pub IsOpening : Failure → Type 0
IsOpening (Store error) = ⊤
IsOpening OutOfMemory = ⊤
IsOpening failure = ⊥

-- why a file isn't opened, whatever it holds: it is missing, damaged or of a later version; or the store failed, or memory ran out
abbrev pub MayRefuse : Failure → Type 0
MayRefuse NoFile = ⊤
MayRefuse (Damaged kind key) = ⊤
MayRefuse NewerVersion = ⊤
MayRefuse failure = IsOpening failure

-- a file isn't opened, and that alone is reported
abbrev pub RefusesFile : Run → Type 0
RefusesFile run = (failure : Failure) × MayRefuse failure × Reports failure run.before run.after run.status

-- no world is opened or made, and that alone is reported
abbrev pub FailsAtOnce : Run → Type 0
FailsAtOnce run = (failure : Failure) × IsOpening failure × Reports failure run.before run.after run.status

-- why a dump gives no world: it is missing, can't be read, is too long, isn't a dump, or shows no world; or memory ran out
abbrev pub IsOfDump : Failure → Type 0
IsOfDump NoBatches = ⊤
IsOfDump Read = ⊤
IsOfDump TooLong = ⊤
IsOfDump (NotADump line) = ⊤
IsOfDump (Damaged kind key) = ⊤
IsOfDump OutOfMemory = ⊤
IsOfDump failure = ⊥

-- why a dump gives no text: it is missing, can't be read, or memory ran out
abbrev pub GivesNoText : Failure → Type 0
GivesNoText NoBatches = ⊤
GivesNoText Read = ⊤
GivesNoText OutOfMemory = ⊤
GivesNoText failure = ⊥

-- Why the dump of this text gives no world, if the text is known. That of a well formed state, of at most 1,073,741,824 bytes, is refused
-- only if it gives no text.
abbrev pub RefusesDump : Option (List ℕ) → Failure → Type 0
RefusesDump text failure =
    IsOfDump failure
    × IfSome text (λ bytes. (s : State) → IsHeld s → dump_of s ≡ bytes → length bytes ≤ LONGEST_TEXT → GivesNoText failure)

-- why the dump of a task gives no world: its text does, or its file can't be opened
abbrev pub RefusesTask : Given → Action → Failure → Type 0
RefusesTask given action failure =
    RefusesDump (given.text (dump_word action)) failure × TellsLack given.lacks (dump_word action) failure

-- why a new world can't be made: a failure of opening, or the dump gives no world
abbrev pub MayNotBegin : Task → Given → Failure → Type 0
MayNotBegin task given failure =
    IsOpening failure ⊎ (IsTrue (is_load task.action) × RefusesTask given task.action failure)

-- the new world that a task begins with can't be made, and that alone is reported
abbrev pub FailsToBegin : Task → Run → Type 0
FailsToBegin task run = (failure : Failure) × MayNotBegin task run.given failure × Reports failure run.before run.after run.status

-- The rows of the new world that a task begins with were found: those of its dump, or none in place of the opening ones. Or its dump gives
-- none.
abbrev pub FindsRows : Action → Given → Result (Option Rows) Failure → Type 0
FindsRows action given r = MatchResult r (λ rows. BeginsFrom action given.text (rows_made rows))
    (λ failure. IsTrue (is_load action) × RefusesTask given action failure)

-- a new world can't be made, and nothing is asked of the ports; or the task runs from the rows of the one that it begins with
abbrev pub RunsNew : Task → Run → Type 0
RunsNew task run = (run.given.ports.rests × FailsToBegin task run)
    ⊎ ((rows : Maps) × BeginsFrom task.action run.given.text rows × RunsUnseen task (rows_alone rows) run)

-- A task ran from a new world of these rows, whatever the disk did. If it returned what was written, it ran from a moment that has each row
-- in its printed cells, and a crash leaves what the end tells.
abbrev pub RunsMade : Database → Task → Maps → Run → Type 0
RunsMade store task rows run = RunsUnseen task (rows_alone rows) run
    × (HasCleanDisk store → (m : Moment) × IsMadeOf rows m × RunsIn store task m run)

-- A new world can't be made, and nothing is asked of the ports; or the task runs from the one that it begins with, and leaves this store.
abbrev pub RunsAnew : Task → Run → Database → Type 0
RunsAnew task run store = (run.given.ports.rests × FailsToBegin task run)
    ⊎ ((rows : Maps) × BeginsFrom task.action run.given.text rows × RunsMade store task rows run)

-- the status of a mistake in the words; asking for help or the version is 0
abbrev pub mistake_status : ErrorKind → ℕ
mistake_status DisplayHelp = 0
mistake_status DisplayVersion = 0
mistake_status mistake = 2

-- The words have a mistake, and what their reader says of it is written, with its status. Or a line of our own says that memory ran out,
-- or that they name no task.
abbrev pub EndsUsage : List (List ℕ) → Option (List ℕ) → Option (List ℕ) → ℕ → Type 0
EndsUsage words old new status =
    ((mistake : ErrorKind) × IsAmong mistake (mistakes words) × (text : List ℕ) × WritesLine text (mistake_status mistake) old new status)
    ⊎ Reports OutOfMemory old new status
    ⊎ (NamesNone words × Reports Usage old new status)

-- a file is refused, and nothing is asked of the ports; or the task runs from good rows
abbrev pub RunsOpened : Task → Run → Type 0
RunsOpened task run = (run.given.ports.rests × RefusesFile run)
    ⊎ ((rows : Maps) × IsGood rows × RunsUnseen task (rows_alone rows) run)

-- The outcome of a task, whatever its file holds. If it begins with a new world, it runs from that, or it can't be made. Any other runs
-- from the world that was found in its file, or the file is refused. (That it is the world which the file's tables show, `RunsFile` says.)
pub record RunsTask (task : Task) (run : Run) : Type 0 where
  pub anew : begins_anew task ≡ true → RunsNew task run
  pub opened : begins_anew task ≡ false → RunsOpened task run

-- The outcome of the words, whatever their file holds: that of the task that they name; or they have a mistake, and nothing is asked of the
-- ports.
abbrev pub RunsWords : List (List ℕ) → Run → Type 0
RunsWords words run =
    ((task : Task) × NamesTask words task × NamesAlone words task × RunsTask task run)
    ⊎ ((1 < length words) × run.given.ports.rests × EndsUsage words run.before run.after run.status)
