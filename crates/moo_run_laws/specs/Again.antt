-- The start of a run over a file, what may be found of the file after the run, and how the next run takes that up.
use Rattle.std.specs.Prelude.{◌≡◌, ◌<◌, ◌⊎◌, ℕ, true, false, List, length, IsSome}
use Rattle.sqlite_disk.specs.declared.Disk.{Ghosts}
use Rattle.sqlite_store.specs.{declared.store.FileStore.{FileStore}, FileStore.{recovers}, Unopened.{state_of as unopened_state}}
use Rattle.sqlite_wal.specs.{Files.{outcomes}, Recovery.{Image}}
use Rattle.sqlite.specs.{State.{HasCleanDisk}, Held.{Held}, Files.{file_state, image_of}}
use Rattle.sqlite.specs.declared.file.Leftover.TheVariants as left
use Rattle.moo_store.specs.Moment.{Moment, BecomesPresent}
use Rattle.moo_files.specs.{Contents.{HoldsSuch, HoldsMoment, HasNoSums, IsLeftBy}, Remains.{IsCleanRemains}}
use Rattle.moo_files.specs.{Stop.{LeftStoreLeaves, BytesLeave}, declared.remains.Remains.{Remains}}
use Rattle.moo_files.specs.declared.remains.Remains.TheVariants as remains
use Rattle.moo_cli.specs.{declared.task.Task.{Task}, Tasks.{NamesTask}}
use Rattle.moo_run.specs.{Given.{Given, Run}, Run.{begins_anew, BeginsFrom, RunsIn, EndsUsage}, Ends.{MatchFile, HasNoFile, FailsFor}}
use Rattle.moo_run.specs.declared.ends.Ends.{Ends}
use Rattle.moo_run.specs.declared.ends.Ends.TheVariants as variant

-- The task starts from a moment of which this is true: if it takes up its file, from *each* moment that the file held, brought to the
-- present version; else from *some* moment of a new world that it may begin with, whose cells are known.
abbrev pub StartsFrom : Task → Image → Given → (Moment → Type 0) → Type 0
StartsFrom task image given From =
    (begins_anew task ≡ false → (m : Moment) → HoldsMoment image m → (now : Moment) × BecomesPresent m now × From now)
    × (begins_anew task ≡ true → (m : Moment) × IsSome m.cells × BeginsFrom task.action given.text m.rows × From m)

module _ {T D : Type 0} {g : Ghosts D} where
  -- If words name a task that takes up its file, which held this image and this moment, on a clean disk it runs from the moment, brought to
  -- the present version, or fails for a cause and tells no damage. Or they have a mistake.
  abbrev pub TakesUp : List (List ℕ) → Image → Moment → Ends T D g → Run → Type 0
  TakesUp words image m ends run =
      ((task : Task) × NamesTask words task × (begins_anew task ≡ false → MatchFile ends
      (λ conn. HasCleanDisk (file_state conn) → (now : Moment) × BecomesPresent m now × RunsIn (file_state conn) task now run)
      (λ remains. IsCleanRemains remains → FailsFor task.file.now image remains run)))
      ⊎ ((1 < length words) × EndsUsage words run.before run.after run.status × HasNoFile ends)

  -- The first is true of the connection, if a task ran over the file. Otherwise the second is true of what is left of the file, which is
  -- untouched if the words name none: they have a mistake, or run on `:memory:`.
  abbrev pub IfRan : Ends T D g → (Held (FileStore D g) → Type 0) → (Remains T D g → Type 0) → Type 0
  IfRan (variant.Ran conn) Ran Left = Ran conn
  IfRan (variant.Refused rest) Ran Left = Left rest
  IfRan (variant.NoFile start) Ran Left = Left (remains.Untouched start)

  -- What a crash leaves of files that held this image, if no task ran over them. Files that weren't opened are as they were. (Those
  -- that `sqlite` failed to open are taken as such: it says nothing of them. Files with checksums on their pages (SQLite's cksumvfs), as no
  -- file of this program has, may have been resealed, and are left out.)
  abbrev pub IsLeftAfter : Image → Remains T D g → Image → Type 0
  IsLeftAfter image (remains.Leftover (left.Files now)) next = outcomes g now.log now.db next
  IsLeftAfter image (remains.Leftover (left.Unopened now)) next = (unopened_state now).may_leave next × HasNoSums image
  IsLeftAfter image (remains.Leftover (left.Store now)) next = HoldsSuch (recovers now) next
  IsLeftAfter image (remains.Connection conn) next = IsLeftBy (file_state conn) next
  IsLeftAfter image unopened next = next ≡ image

  -- what may be found of the files, whenever the process stops: any bytes that the disk leaves, or what a crash leaves
  abbrev pub IsFoundOf : Image → Remains T D g → Image → Type 0
  IsFoundOf image rest next = BytesLeave image rest next ⊎ IsLeftAfter image rest next

  -- The image is what the files hold once their connection is closed, or any bytes that the disk leaves of them then. If closing failed,
  -- it is what `LeftStoreLeaves` allows of the store that came back.
  abbrev pub IsFoundIn : Remains T D g → Image → Type 0
  IsFoundIn (remains.Leftover (left.Files now)) next = (next ≡ image_of g now) ⊎ outcomes g now.log now.db next
  IsFoundIn (remains.Leftover (left.Store now)) next = LeftStoreLeaves now next
  IsFoundIn closed next = ⊥
