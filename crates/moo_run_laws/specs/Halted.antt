-- The law of a run that comes to a stop at any call.
use Rattle.std.specs.Prelude.{◌≡◌, ◌⊎◌, IsTrue, false}
use Rattle.sqlite_disk.specs.declared.Disk.{Ghosts}
use Rattle.sqlite_store.specs.{declared.store.FileStore.{FileStore}, FileStore.{view, recovers}}
use Rattle.sqlite_wal.specs.Recovery.{Image}
use Rattle.sqlite.specs.Held.{Held}
use Rattle.sqlite.specs.declared.file.Leftover.TheVariants as left
use Rattle.moo_files.specs.{Contents.{HoldsSuch}, Remains.{IsCleanRemains}, Stop.{DiskLeaves, BytesLeave}}
use Rattle.moo_files.specs.declared.remains.Remains.{Remains}
use Rattle.moo_files.specs.declared.remains.Remains.TheVariants as remains
use Rattle.moo_run_laws.specs.{Again.{IfRan}, FileRuns.{FileRun, HandsOver}, Twice.{EndsClosed}}
use Rattle.moo_run.specs.declared.ends.Ends.{Ends}
use Rattle.moo_run.specs.declared.session.HasRun as HasRun

module _ {D : Type 0} {g : Ghosts D} where
  -- closing shut the store: it stopped at the sync of the database file, or as it turned its log over
  abbrev pub IsShutByClosing : Held (FileStore D g) → FileStore D g → Type 0
  IsShutByClosing conn now = IsTrue (view conn.store).is_open × ((view now).is_open ≡ false)

module _ {T D : Type 0} {g : Ghosts D} where
  -- The bytes that the disk may leave of the two files of this connection once it is closed, or closing failed: any; if closing shut
  -- the store, only those that hold a database it may leave.
  abbrev pub ClosedLeaves : Image → Held (FileStore D g) → Remains T D g → Image → Type 0
  ClosedLeaves image conn (remains.Leftover (left.Store now)) next =
      ((¬ IsShutByClosing conn now) × DiskLeaves now next) ⊎ HoldsSuch (recovers now) next
  ClosedLeaves image conn closed next = BytesLeave image closed next

  -- The bytes that the disk may leave of the two files at the end of a run, once they are closed: if a task ran over them (the first
  -- function), or if none did (the second).
  abbrev pub EndLeaves : Image → Ends T D g → Remains T D g → Image → Type 0
  EndLeaves image ends closed next = IfRan ends (λ conn. ClosedLeaves image conn closed next) (λ rest. BytesLeave image closed next)

module _ {S T D N U E : Type 0} (g : HasRun.Ghosts S T D) {disk : Ghosts D} (h : HasRun.Ghosts N U E) {other : Ghosts E} where
  -- A run that began with a session of which `Began` is true, and then the next run; each told how it ended, and then its file was closed.
  -- If the disk of the first returned what was written, and the files of the second held bytes that `EndLeaves` allows, the first hands
  -- them over.
  abbrev pub HaltsBefore : (S → Type 0) → (S → Ends T D disk → FileRun g disk) → (Ends U E other → FileRun h other) → Type 0
  HaltsBefore Began run_by next_by = (began : S) × Began began × (ends : Ends T D disk) × (next_ends : Ends U E other)
      × (let first = run_by began ends in let next = next_by next_ends in
      EndsClosed first × EndsClosed next
      × (IsCleanRemains first.closed → EndLeaves first.image first.ends first.closed next.image → HandsOver first next))
