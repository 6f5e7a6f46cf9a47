-- What is left of the files once they are closed.
use Rattle.std.specs.Prelude.{◌≡◌}
use Rattle.sqlite_disk.specs.declared.Disk.{Ghosts}
use Rattle.sqlite_wal.specs.{Recovery.{Image}, Files.{outcomes}, Reads.{AreClean}}
use Rattle.sqlite_store.specs.{declared.store.FileStore.{FileStore}, FileStore.{recovers}}
use Rattle.sqlite.specs.{Tree.{Trees}, State.{State as Database, HasCleanDisk}, Held.{Held}}
use Rattle.sqlite.specs.{Files.{IsCleanLeft, IsClosed, file_state, image_of}, Closing.{IsCopied}, declared.file.Leftover.{Leftover}}
use Rattle.sqlite.specs.declared.file.Leftover.TheVariants as left
use Rattle.moo_files.specs.{Contents.{IsLeftBy}, Stop.{IsNumberedStore, KeepsTreesNumbered}, declared.remains.Remains.{Remains}}
use Rattle.moo_files.specs.declared.remains.Remains.TheVariants as remains

module _ {D : Type 0} {g : Ghosts D} where
  -- The two files hold a database that a crash of this store might have left, and so does what a crash leaves of them. If closing
  -- failed, so does what the next open finds.
  abbrev pub IsLeftOf : Database → Leftover D g → Type 0
  IsLeftOf store (left.Files now) =
      IsLeftBy store (image_of g now) × ((found : Image) → outcomes g now.log now.db found → IsLeftBy store found)
  IsLeftOf store (left.Unopened now) = ⊥
  IsLeftOf store (left.Store now) = (trees : Trees) → recovers now trees → store.may_leave trees

  -- A closed connection left its last commit in the database file alone, and so it is after a crash; or closing failed, and an open store
  -- came back.
  abbrev pub IsClosedAs : Held (FileStore D g) → Leftover D g → Type 0
  IsClosedAs conn (left.Files now) = AreClean g now.log now.db → IsCopied conn now
  IsClosedAs conn (left.Unopened now) = ⊥
  IsClosedAs conn (left.Store now) = IsClosed conn now

module _ {T D : Type 0} {g : Ghosts D} where
  -- What is left of files was closed. A connection was closed as `IsClosedAs` says, and its trees had been numbered; anything else is as
  -- it was.
  abbrev pub IsClosedFrom : Remains T D g → Remains T D g → Type 0
  IsClosedFrom (remains.Connection conn) now = (left : Leftover D g) × (now ≡ remains.Leftover left) × IsClosedAs conn left
      × (IsCleanLeft left → HasCleanDisk (file_state conn) × IsLeftOf (file_state conn) left × IsNumberedStore conn.store
      × KeepsTreesNumbered conn left)
  IsClosedFrom was now = now ≡ was
