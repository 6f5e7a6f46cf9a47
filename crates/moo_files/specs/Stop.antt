-- What the disk leaves of the bytes of two files that were stopped.
--
-- A *crash leaves a database*: any log and file from which that database is read. The *disk leaves bytes*: one log and one file that the
-- model of the disk allows. The second is what a machine does; that it implies the first is proved, but for the cases named here.
use Rattle.std.specs.Prelude.{◌≡◌, ◌⊎◌, false, IsTrue, ⊤}
use Rattle.sqlite_disk.specs.declared.Disk.{Ghosts}
use Rattle.sqlite_wal.specs.{Recovery.{Image}, Files.{outcomes}}
use Rattle.sqlite_store.specs.{declared.store.FileStore.{FileStore}, FileStore.{view, files, recovers}, Unopened.{files_of}}
use Rattle.sqlite.specs.{Held.{Held}, declared.file.Leftover.{Leftover}}
use Rattle.sqlite.specs.declared.file.Leftover.TheVariants as left
use Rattle.moo_files.specs.{Contents.{HoldsSuch, HasNoSums}, declared.remains.Remains.{Remains}}
use Rattle.moo_files.specs.declared.remains.Remains.TheVariants as remains

module _ {D : Type 0} {g : Ghosts D} where
  -- The disk may leave these bytes of the log and of the database file, if the process stops now: what was synced, and of all that was
  -- written since any part.
  abbrev pub DiskLeaves : FileStore D g → Image → Type 0
  DiskLeaves store image = let both = files store in outcomes g both.0 both.1 image

  -- Each table has the place that SQLite's own list of tables gives it. That isn't known if `sqlite` couldn't read the list, or closing
  -- shut the store.
  abbrev pub IsNumberedStore : FileStore D g → Type 0
  IsNumberedStore store = IsTrue (view store).is_numbered

  -- The trees of a store that couldn't be closed are numbered too, if that is open still, or was shut before the closing.
  abbrev pub KeepsTreesNumbered : Held (FileStore D g) → Leftover D g → Type 0
  KeepsTreesNumbered conn (left.Store now) = IsTrue (view now).is_open ⊎ ((view conn.store).is_open ≡ false) → IsNumberedStore now
  KeepsTreesNumbered conn now = ⊤

  -- Of a store that was left the disk may leave these bytes, if its trees are numbered. If they aren't, the bytes hold a database that it
  -- may leave.
  abbrev pub LeftStoreLeaves : FileStore D g → Image → Type 0
  LeftStoreLeaves now next = (IsNumberedStore now × DiskLeaves now next) ⊎ HoldsSuch (recovers now) next

module _ {T D : Type 0} {g : Ghosts D} where
  -- Of files that held an image, over which no task ran, the disk may leave these bytes. Those that weren't opened are as they were.
  -- (Those that `sqlite` failed to open are taken as such: it says nothing of them.) If they were being opened, their pages end in no
  -- checksums (SQLite's cksumvfs).
  abbrev pub BytesLeave : Image → Remains T D g → Image → Type 0
  BytesLeave image (remains.Leftover (left.Files now)) next = outcomes g now.log now.db next
  BytesLeave image (remains.Leftover (left.Unopened now)) next =
      (let both = files_of now in outcomes g both.0 both.1 next) × HasNoSums image
  BytesLeave image (remains.Leftover (left.Store now)) next = LeftStoreLeaves now next
  BytesLeave image (remains.Connection conn) next = DiskLeaves conn.store next
  BytesLeave image unopened next = next ≡ image

  -- if what is left of the files has a connection, its trees are numbered
  abbrev pub AreNumbered : Remains T D g → Type 0
  AreNumbered (remains.Connection conn) = IsNumberedStore conn.store
  AreNumbered rest = ⊤
