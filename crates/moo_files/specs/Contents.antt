-- What the files of a database hold.
use Rattle.std.specs.Prelude.{◌≡◌, ◌⊎◌, ℕ, false}
use Rattle.sqlite_wal.specs.Recovery.{Image}
use Rattle.sqlite_pool.specs.Stored.{is_summed}
use Rattle.sqlite.specs.{Tree.{Trees}, State.{State as Database}, Files.{HoldsDatabase, IsNothing, IsEmpty}, Opening.{HoldsIn}}
use Rattle.sqlite.specs.Effect.{IsDatabase}
use Rattle.moo_rows.specs.Maps.{Maps}
use Rattle.moo_world.specs.{Judge.{State}, Rows.{IsGood}}
use Rattle.moo_tables_rows.specs.{declared.version.Version.{Version}, Tables.{Tables, schema_of, no_schema}, Inside.{Leaves}}
use Rattle.moo_tables_rows.specs.Version.{IsEarlier}
use Rattle.moo_cells.specs.Shows.{ShowsRows}
use Rattle.moo_store.specs.{Moment.{Moment, AreTreesOf}, States.{LeavesRows, LeavesState}}
use Rattle.moo_files.specs.Blank.{IsBlank}

-- a log and its file hold this database
abbrev pub HoldsTrees : Image → Trees → Type 0
HoldsTrees image trees = ∥ HoldsDatabase image trees ∥₁

-- a log and its file hold a database of which this is true
pub record HoldsSuch (P : Trees → Type 0) (image : Image) : Type 0 where
  pub trees : Trees
  pub holds : HoldsTrees image trees
  pub such : P trees

-- a log and its file hold a database with these tables
abbrev pub HoldsTables : Image → Tables → Type 0
HoldsTables image tables = HoldsSuch (λ trees. Leaves trees tables) image

-- a log and its file hold a database of just this moment
abbrev pub HoldsMoment : Image → Moment → Type 0
HoldsMoment image m = HoldsSuch (AreTreesOf m) image

-- a log and its file hold a database whose tables show good rows of this state
abbrev pub HoldsState : Image → State → Type 0
HoldsState image s = HoldsSuch (λ trees. LeavesState trees s) image

-- a log and its file hold a database that a crash of this store may leave
abbrev pub IsLeftBy : Database → Image → Type 0
IsLeftBy store image = HoldsSuch store.may_leave image

-- a log and its file hold nothing, be it a half-made page of either size
abbrev pub HoldsNoDatabase : Image → Type 0
HoldsNoDatabase image = IsNothing image ⊎ IsBlank image

-- files hold nothing, or a database without rows, or a database of which this is true
abbrev pub HoldsNothingBut : (Trees → Type 0) → Image → Type 0
HoldsNothingBut P image = HoldsNoDatabase image ⊎ ∥ HoldsSuch (λ trees. IsEmpty trees ⊎ P trees) image ∥₁

-- the pages of the database don't end in checksums (SQLite's cksumvfs), as those of a file that this program made don't
abbrev pub HasNoSums : Image → Type 0
HasNoSums image = (trees : Trees) (held : HoldsDatabase image trees) → is_summed held.0 ≡ false

-- a database has the tables of no version of ours
abbrev pub HasOtherTables : Trees → Type 0
HasOtherTables trees = (version : Version) → ¬ IsDatabase (record { schema = schema_of version; trees = trees })

-- a database has the tables of an earlier version
abbrev pub HasEarlierTables : Trees → Type 0
HasEarlierTables trees =
    (version : Version) × IsEarlier version × IsDatabase (record { schema = schema_of version; trees = trees })

-- a database has any table, index or view
abbrev pub HasAnyTable : Trees → Type 0
HasAnyTable trees = ¬ IsDatabase (record { schema = no_schema; trees = trees })

-- A log and its file read as a sound database. `HoldsTrees` says besides that SQLite allows the size of its pages.
abbrev pub ReadsAs : Image → Trees → Type 0
ReadsAs image trees = ∥ ((size : ℕ) × HoldsIn size image trees) ∥₁

-- a log and its file read as a sound database with tables of ours
abbrev pub ReadsAsOurs : Image → Type 0
ReadsAsOurs image = (trees : Trees) × ReadsAs image trees × (¬ HasOtherTables trees)

-- a log and its file hold nothing, or they read as a database without tables
abbrev pub HoldsNoTable : Image → Type 0
HoldsNoTable image = HoldsNoDatabase image ⊎ ((trees : Trees) × ReadsAs image trees × (¬ HasAnyTable trees))

-- Tables of an earlier version have become others that show the same world. If they show none they don't become others.
pub record IsMigrated (old new : Trees) : Type 0 where
  pub earlier : HasEarlierTables old
  pub state : (s : State) → LeavesState old s → LeavesState new s
  pub sound : (tables : Tables) → Leaves old tables → (rows : Maps) × IsGood rows × ShowsRows tables rows × LeavesRows new rows

-- the database is this one, or it was migrated
abbrev pub IsKept : Trees → Trees → Type 0
IsKept old new = (new ≡ old) ⊎ IsMigrated old new
