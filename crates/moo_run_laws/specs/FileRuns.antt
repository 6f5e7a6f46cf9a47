-- The law of the program: a run over a file, what is found of the file after it, and the run after that.
use Rattle.std.specs.Prelude.{◌≡◌, ◌⊎◌, ℕ, List}
use Rattle.sqlite_disk.specs.declared.Disk.{Ghosts}
use Rattle.sqlite_wal.specs.Recovery.{Image}
use Rattle.sqlite.specs.{State.{HasCleanDisk}, Files.{file_state}}
use Rattle.moo_store.specs.{Moment.{Moment, IsSparedMoment}, Place.{Place, Works, MayBeLeft}}
use Rattle.moo_files.specs.{Contents.{HoldsMoment, IsLeftBy}, Remains.{IsCleanRemains}, Stop.{DiskLeaves}}
use Rattle.moo_files.specs.declared.remains.Remains.{Remains}
use Rattle.moo_cli.specs.{declared.task.Task.{Task}, Tasks.{NamesTask}}
use Rattle.moo_http.specs.Turns.{Attendance}
use Rattle.moo_run.specs.{Given.{Run}, Run.{RunsIn}, Ends.{RunsOver, IsClosedEnd}, declared.ends.Ends.{Ends}}
use Rattle.moo_run_laws.specs.Again.{StartsFrom, IfRan, TakesUp, IsLeftAfter, IsFoundOf, IsFoundIn}
use Rattle.moo_run.specs.declared.session.HasRun as HasRun

-- A run of the program over a file: its words, what the two files held, its session before it and after it, and what it left of the file,
-- before this was closed and after that.
pub record FileRun {S T D : Type 0} (g : HasRun.Ghosts S T D) (disk : Ghosts D) : Type 0 where
  pub words : List (List ℕ)
  pub image : Image
  pub began : S
  pub ended : S
  pub ends : Ends T D disk
  pub closed : Remains T D disk

-- What came of a port that was served from a moment: it was refused, or so many connections to it were answered and so many failed, which
-- led to this end.
abbrev pub ServedTo : Attendance → ℕ → Moment → Place → Type 0
ServedTo ports port m end =
    ((end ≡ Works m) × ports.refuses port) ⊎ ((answered failed : ℕ) × ports.attends port answered failed (Works m) end)

module _ {S T D : Type 0} {g : HasRun.Ghosts S T D} {disk : Ghosts D} where
  -- what it was given, and what it wrote
  abbrev pub run_of : FileRun g disk → Run
  run_of r = g.run r.began r.ended

  -- the words ran over files that held that image
  abbrev pub IsFileRun : FileRun g disk → Type 0
  IsFileRun r = RunsOver r.words r.image r.ends (run_of r)

  -- What may be found after it. If a task ran over the file (the first function), before that is closed: any files of a database that a
  -- crash leaves, or any bytes that the disk leaves; after that: what the closed file holds, or any bytes that the disk leaves. If none did
  -- (the second): any bytes that the disk leaves of it, or what a crash leaves, before or after.
  abbrev pub IsFoundAfter : FileRun g disk → Image → Type 0
  IsFoundAfter r next = IfRan r.ends
      (λ conn. IsLeftBy (file_state conn) next ⊎ (DiskLeaves conn.store next ⊎ IsFoundIn r.closed next))
      (λ rest. IsFoundOf r.image rest next ⊎ IsFoundOf r.image r.closed next)

  -- what a crash leaves before the file is closed, if the disk returned until then what was written
  abbrev pub IsLeftByCrash : FileRun g disk → Image → Type 0
  IsLeftByCrash r next = IfRan r.ends
      (λ conn. HasCleanDisk (file_state conn) × IsLeftBy (file_state conn) next)
      (λ rest. IsCleanRemains rest × IsLeftAfter r.image rest next)

  -- What may be found of it on a disk that returned what was written: until a crash, what that leaves; until the file was closed, whatever
  -- may be found after the run.
  abbrev pub IsFoundOnCleanDisk : FileRun g disk → Image → Type 0
  IsFoundOnCleanDisk r next = IsLeftByCrash r next ⊎ (IsClosedEnd r.ends r.closed × IsCleanRemains r.closed × IsFoundAfter r next)

  -- The run leads its file to a moment of which this is true. If a task ran over the file (the first function): from the moment where it
  -- started to one that its end may leave. If none did (the second), for *each* moment that the file held: to that, or, of version 1, to
  -- some moment of the same rows.
  abbrev pub GoesTo : FileRun g disk → (Moment → Type 0) → Type 0
  GoesTo r Then = IfRan r.ends
      (λ conn. (task : Task) × NamesTask r.words task × StartsFrom task r.image (run_of r).given (λ m.
      (ran : RunsIn (file_state conn) task m (run_of r)) × (left : Moment) × MayBeLeft ran.0.end left × Then left))
      (λ rest. (m : Moment) → HoldsMoment r.image m → (left : Moment) × IsSparedMoment m left × Then left)

  -- The run goes on from this moment: its files hold it; and a task that takes up its file, on a clean disk, runs from it, or fails for a
  -- cause, and no damage is told.
  abbrev pub GoesOnFrom : FileRun g disk → Moment → Type 0
  GoesOnFrom r m = HoldsMoment r.image m × TakesUp r.words r.image m r.ends (run_of r)

module _ {S T D N U E : Type 0} {g : HasRun.Ghosts S T D} {disk : Ghosts D} {h : HasRun.Ghosts N U E} {other : Ghosts E} where
  -- two runs of the program, the second over what is found after the first
  abbrev pub Follows : FileRun g disk → FileRun h other → Type 0
  Follows first next = IsFileRun first × IsFileRun next × IsFoundOnCleanDisk first next.image

  -- The first run leads its file to a moment from which the next one goes on.
  pub record HandsOver (first : FileRun g disk) (next : FileRun h other) : Type 0 where
    pub goes : GoesTo first (GoesOnFrom next)
