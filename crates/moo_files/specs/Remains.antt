-- What a refusal leaves of the files.
use Rattle.std.specs.Prelude.{◌≡◌, ◌≢◌, ◌⊎◌, ◌<◌, ⊤}
use Rattle.sqlite_disk.specs.declared.Disk.{Ghosts}
use Rattle.sqlite_wal.specs.{Recovery.{Image}, Files.{outcomes}}
use Rattle.sqlite_pool.specs.Stored.{stored_size, StandsAs, IsUnreadable}
use Rattle.sqlite_store.specs.{FileStore.{recovers}, Unopened.{state_of}, declared.store.open.Unopened.{Unopened}}
use Rattle.sqlite.specs.{Tree.{Trees}, State.{HasCleanDisk}}
use Rattle.sqlite.specs.Files.{AreFoundIn, IsCleanLeft, IsEmpty, IsNothing, NamesSize, faults_left, file_state}
use Rattle.sqlite.specs.declared.file.Leftover.{Leftover}
use Rattle.sqlite.specs.declared.file.Leftover.TheVariants as left
use Rattle.sqlite.specs.declared.error.Error.TheVariants.{SqliteFailure}
use Rattle.sqlite.specs.declared.error.ErrorCode.TheVariants.{CannotOpen, DatabaseBusy, DatabaseCorrupt}
use Rattle.moo_world.specs.Judge.{State}
use Rattle.moo_store.specs.{States.{LeavesState}, OpeningRows.{not_ours}, declared.fault.StoreFault.{StoreFault}}
use Rattle.moo_store.specs.declared.fault.StoreFault.TheVariants.{Store, OutOfMemory}
use Rattle.moo_files.specs.{Contents.{HoldsSuch, HoldsNothingBut, HasNoSums, IsKept, ReadsAs}, declared.remains.Remains.{Remains}}
use Rattle.moo_files.specs.declared.remains.Remains.TheVariants as remains

-- the fault of a file that can't be opened: there is no file of this name, or the host refused it
abbrev pub cannot_open : StoreFault
cannot_open = Store (SqliteFailure CannotOpen)

-- the fault of a file that is open elsewhere
abbrev pub busy : StoreFault
busy = Store (SqliteFailure DatabaseBusy)

-- the fault of a file that isn't a whole database
abbrev pub malformed : StoreFault
malformed = Store (SqliteFailure DatabaseCorrupt)

module _ {T D : Type 0} {g : Ghosts D} where
  -- The disk returned what was written, as long as the files were open. It is *clean*: no wrong answer of it was taken as true. A call that
  -- fails isn't a wrong answer.
  abbrev pub IsCleanRemains : Remains T D g → Type 0
  IsCleanRemains (remains.Leftover left) = IsCleanLeft left
  IsCleanRemains (remains.Connection conn) = HasCleanDisk (file_state conn)
  IsCleanRemains unopened = ⊤

  -- no file was opened
  abbrev pub IsUnopened : Remains T D g → Type 0
  IsUnopened (remains.Leftover left) = ⊥
  IsUnopened (remains.Connection conn) = ⊥
  IsUnopened unopened = ⊤

  -- If no file was opened, the fault is one of these: before `sqlite` was asked, that the file can't be opened or is empty; from
  -- `sqlite`, that the files can't be opened, are open elsewhere, or memory ran out.
  abbrev pub MayStopAs : StoreFault → Remains T D g → Type 0
  MayStopAs fault (remains.Untouched start) = (fault ≡ cannot_open) ⊎ (fault ≡ not_ours)
  MayStopAs fault (remains.NotOpened seal) = (fault ≡ cannot_open) ⊎ ((fault ≡ OutOfMemory) ⊎ (fault ≡ busy))
  MayStopAs fault opened = ⊤

  -- if the start was spent on files that couldn't be opened, this is so
  abbrev pub IfNotOpened : Remains T D g → Type 0 → Type 0
  IfNotOpened (remains.NotOpened seal) P = P
  IfNotOpened rest P = ⊤

  -- The fault doesn't say that the files aren't a database of moo. Before they are opened nothing is said: an empty file is refused so.
  abbrev pub TakesForOurs : StoreFault → Remains T D g → Type 0
  TakesForOurs fault (remains.Untouched start) = ⊤
  TakesForOurs fault rest = fault ≢ not_ours

  -- If `sqlite`, as it opens the files, calls them malformed, a call of the disk failed.
  abbrev pub ExcusesMalformed : StoreFault → Remains T D g → Type 0
  ExcusesMalformed fault (remains.Leftover left) = fault ≡ malformed → 0 < faults_left left
  ExcusesMalformed fault (remains.Connection conn) = ⊤
  ExcusesMalformed fault unopened = fault ≢ malformed

module _ {D : Type 0} {g : Ghosts D} where
  -- the pages that this image has, of the size that it names, with the checksums that they lacked
  abbrev pub IsResealed : Unopened D g → Image → Image → Type 0
  IsResealed now image found = NamesSize image (stored_size (state_of now).page_size) × StandsAs (state_of now).page_size image found

  -- Whatever a crash leaves of files that held this image has the first property, or is a database that has the second one. If they were
  -- left while `sqlite` took them up and their pages end in checksums, they may also be resealed.
  abbrev pub LeftoverKeeps : (Image → Type 0) → (Trees → Type 0) → Image → Leftover D g → Type 0
  LeftoverKeeps Is P image (left.Files now) = (found : Image) → outcomes g now.log now.db found → Is found
  LeftoverKeeps Is P image (left.Unopened now) = (found : Image) → (state_of now).may_leave found →
      (Is found ⊎ IsResealed now image found) × (HasNoSums image → Is found)
  LeftoverKeeps Is P image (left.Store now) = (trees : Trees) → recovers now trees → P trees

  -- A crash leaves what was there, or the same pages, resealed. If the pages weren't whole, it leaves what was there. It never leaves
  -- nothing, so that the next open doesn't write over it.
  pub record IsSparedAs (now : Unopened D g) (image found : Image) : Type 0 where
    pub same : (found ≡ image) ⊎ IsResealed now image found
    pub unread : IsUnreadable (state_of now).page_size image → found ≡ image
    pub something : ¬ IsNothing found

  -- Whatever a crash leaves of files that held this image, sound or not, is this image, or that of which `IsSparedAs` speaks. If
  -- `sqlite` had read all trees already, it leaves just these.
  abbrev pub LeftoverSpares : Image → Leftover D g → Type 0
  LeftoverSpares image (left.Files now) = (found : Image) → outcomes g now.log now.db found → found ≡ image
  LeftoverSpares image (left.Unopened now) = (found : Image) → (state_of now).may_leave found → IsSparedAs now image found
  LeftoverSpares image (left.Store now) = (trees : Trees) → recovers now trees → AreFoundIn image trees

module _ {T D : Type 0} {g : Ghosts D} where
  -- What files that held this image hold has the first property, and so has what a crash leaves of them. Of files that weren't opened it is
  -- what they held; of those that `sqlite` couldn't open nothing is said. The databases that an open store leaves have the second property.
  abbrev pub KeepsAs : (Image → Type 0) → (Trees → Type 0) → Image → Remains T D g → Type 0
  KeepsAs Is P image (remains.Untouched start) = Is image
  KeepsAs Is P image (remains.NotOpened seal) = ⊤
  KeepsAs Is P image (remains.Leftover left) = LeftoverKeeps Is P image left
  KeepsAs Is P image (remains.Connection conn) = (trees : Trees) → (file_state conn).may_leave trees → P trees

  -- files that held this image hold a database that has this property
  abbrev pub KeepsSuch : (Trees → Type 0) → Image → Remains T D g → Type 0
  KeepsSuch P = KeepsAs (HoldsSuch P) P

  -- files that held this database hold it still, or what it was migrated to
  abbrev pub StillHoldsTrees : Image → Remains T D g → Trees → Type 0
  StillHoldsTrees image remains trees = KeepsSuch (IsKept trees) image remains

  -- files that held this state hold it still
  abbrev pub StillHolds : Image → Remains T D g → State → Type 0
  StillHolds image remains s = KeepsSuch (λ trees. LeavesState trees s) image remains

  -- files that held nothing hold nothing still, a database without rows, or a database that has this property
  abbrev pub KeepsNothingBut : (Trees → Type 0) → Image → Remains T D g → Type 0
  KeepsNothingBut P = KeepsAs (HoldsNothingBut P) (λ trees. IsEmpty trees ⊎ P trees)

  -- Files that held this image are spared, sound or not. A connection comes back only if they read as a sound database.
  abbrev pub Spares : Image → Remains T D g → Type 0
  Spares image (remains.Leftover left) = LeftoverSpares image left
  Spares image (remains.Connection conn) = (trees : Trees) × ReadsAs image trees
  Spares image unopened = ⊤
