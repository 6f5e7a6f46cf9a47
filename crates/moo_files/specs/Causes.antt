-- Why no world is opened: what refused it.
use Rattle.std.specs.{Prelude.{◌≡◌, ◌⊎◌, ◌==◌, ◌||◌, ℕ, Bool, IsTrue, ◌<◌, List, Result, Ok, Err, codes, ⊤}, Str.{bytes_eq}}
use Rattle.std.specs.{List.{starts_with}, Fs.{file_type, metadata_len, IsFile}, declared.fs.attrs.Metadata.{Metadata}}
use Rattle.sqlite_disk.specs.declared.Disk.{Ghosts}
use Rattle.sqlite_wal.specs.Recovery.{Image}
use Rattle.sqlite.specs.{Tree.{Trees}, Files.{faults_left, file_state, HoldsDatabase, IsFullLeft, IsNothing}, Held.{Held}}
use Rattle.sqlite.specs.{declared.error.Error.{Error}, declared.error.Error.TheVariants.{SqliteFailure}}
use Rattle.sqlite_store.specs.declared.store.FileStore.{FileStore}
use Rattle.sqlite.specs.declared.error.ErrorCode.TheVariants as code
use Rattle.sqlite.specs.declared.file.Leftover.{Leftover}
use Rattle.moo_store.specs.{declared.fault.StoreFault.{StoreFault}, declared.fault.StoreFault.TheVariants.{Store, OutOfMemory}}
use Rattle.moo_files.specs.declared.remains.Remains.{Remains}
use Rattle.moo_files.specs.declared.remains.Remains.TheVariants as remains

-- the name isn't the path of a file: it is `:memory:`, or a URI, which begins with `file:`
abbrev pub names_no_file : List ℕ → Bool
names_no_file path = bytes_eq path (codes ":memory:") || starts_with (λ a b. a == b) path (codes "file:")

-- a log and its file hold nothing, or a database
abbrev pub IsOpenable : Image → Type 0
IsOpenable image = IsNothing image ⊎ ∥ ((trees : Trees) × HoldsDatabase image trees) ∥₁

-- there is no file, it can't be looked at, or it has no byte
abbrev pub IsUnfit : {E : Type 0} → Result Metadata E → Type 0
IsUnfit (Ok meta) = IsFile (file_type meta) × (metadata_len meta ≡ 0)
IsUnfit (Err e) = ⊤

module _ {D : Type 0} {g : Ghosts D} where
  -- memory ran out, a call of the disk failed, or the files are as long as their format allows
  abbrev pub IsRefused : Error → Leftover D g → Type 0
  IsRefused error left = (error ≡ SqliteFailure code.OutOfMemory) ⊎ ((0 < faults_left left) ⊎ IsFullLeft left)

module _ {T D : Type 0} {g : Ghosts D} where
  -- Why files are refused: they weren't opened, since the host denied them; memory ran out, a call of the disk failed, or they are as
  -- long as their format allows; or a connection to them is open, and it has a cause of its own.
  abbrev pub HasCauseOr : (Held (FileStore D g) → Type 0) → Type 0 → StoreFault → Remains T D g → Type 0
  HasCauseOr Over Denied fault (remains.Leftover left) = (fault ≡ OutOfMemory) ⊎ ((0 < faults_left left) ⊎ IsFullLeft left)
  HasCauseOr Over Denied fault (remains.Connection conn) = Over conn
  HasCauseOr Over Denied fault unopened = Denied

  -- why a sound database is refused; nothing is said once a connection is open
  abbrev pub HasCause : Type 0 → StoreFault → Remains T D g → Type 0
  HasCause = HasCauseOr (λ _. ⊤)

module _ {D : Type 0} {g : Ghosts D} where
  -- Why the tables of an open connection, with which nothing is wrong, give no world: memory ran out, as this program or the store tells
  -- it, or a call of the disk failed. If they are migrated, that may stop too: a row is too big, or no number is left for a new one.
  abbrev pub StopsOver : Type 0 → StoreFault → Held (FileStore D g) → Type 0
  StopsOver Migrated fault conn = ((fault ≡ OutOfMemory) ⊎ (fault ≡ Store (SqliteFailure code.OutOfMemory)))
      ⊎ ((0 < (file_state conn).faults) ⊎ (Migrated
      × ((fault ≡ Store (SqliteFailure code.TooBig)) ⊎ (fault ≡ Store (SqliteFailure code.NoRowid)))))

-- the name isn't a path, or the host denies it
abbrev pub IsDenied : (List ℕ → Type 0) → List ℕ → Type 0
IsDenied denies path = IsTrue (names_no_file path) ⊎ denies path
