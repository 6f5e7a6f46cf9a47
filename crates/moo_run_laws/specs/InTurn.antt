-- Runs of the program in turn, each over what is found of the file after the one before it.
use Rattle.std.specs.Prelude.{◌≡◌, List, [], ◌∷◌, ◌++◌}
use Rattle.sqlite_disk.specs.declared.Disk.{Ghosts}
use Rattle.sqlite_wal.specs.Recovery.{Image}
use Rattle.sqlite.specs.Files.{file_state}
use Rattle.moo_world.specs.declared.call.Batch.{Batch}
use Rattle.moo_store.specs.{Moment.{Moment, BecomesPresent, IsSparedMoment, LeadsByEach}, Place.{MayBeLeft}}
use Rattle.moo_cli.specs.{declared.task.Task.{Task}, Tasks.{NamesTask}}
use Rattle.moo_run.specs.Run.{RunsIn}
use Rattle.moo_run_laws.specs.{Again.{IfRan}, FileRuns.{FileRun, run_of, IsFileRun, IsFoundOnCleanDisk}}
use Rattle.moo_run.specs.declared.session.HasRun as HasRun

module _ {S T D : Type 0} {g : HasRun.Ghosts S T D} {disk : Ghosts D} where
  -- Each of these runs is over what is found after the one before it, on a disk that returned what was written: the first over files that
  -- held the one image, and the other is found after the last.
  abbrev pub RunInTurn : Image → List (FileRun g disk) → Image → Type 0
  RunInTurn image [] found = found ≡ image
  RunInTurn image (run ∷ runs) found =
      (run.image ≡ image) × IsFileRun run × (next : Image) × IsFoundOnCleanDisk run next × RunInTurn next runs found

  -- The run leads from a moment to the next by these batches, one after another: from that moment, brought to the present version, to one
  -- that its end may leave. The accepted batches of a text that it ran are such batches (`turns_lead`). If no task ran over the file there
  -- are none, and its moment is kept; or, of version 1, it is some moment of the same rows.
  abbrev pub LeadsOver : FileRun g disk → Moment → List Batch → Moment → Type 0
  LeadsOver run m batches next = IfRan run.ends
      (λ conn. (task : Task) × NamesTask run.words task × (now : Moment) × BecomesPresent m now
      × (ran : RunsIn (file_state conn) task now (run_of run)) × MayBeLeft ran.0.end next × LeadsByEach now batches next)
      (λ rest. (batches ≡ []) × IsSparedMoment m next)

  -- The runs lead from a moment to the last by these batches, one run after another.
  abbrev pub LeadInTurn : Moment → List (FileRun g disk) → List Batch → Moment → Type 0
  LeadInTurn m [] batches end = (batches ≡ []) × (end ≡ m)
  LeadInTurn m (run ∷ runs) batches end =
      (own later : List Batch) × (next : Moment) × LeadsOver run m own next × LeadInTurn next runs later end × (batches ≡ own ++ later)
