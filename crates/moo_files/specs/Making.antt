-- What making a world in a file does, by what the file holds.
use Rattle.std.specs.Prelude.{◌≡◌, ◌⊎◌, ⊤, Option, None, Some, Ok, Err}
use Rattle.sqlite_disk.specs.declared.Disk.{Ghosts}
use Rattle.sqlite_store.specs.declared.store.FileStore.{FileStore}
use Rattle.sqlite_wal.specs.Recovery.{Image}
use Rattle.sqlite.specs.{State.{HasCleanDisk}, Held.{Held}, Files.{over_files}, Tree.{Trees}}
use Rattle.moo_rows.specs.{Maps.{Maps, Held as Rows}, Opening.{opening_maps}}
use Rattle.moo_store.specs.{Kept.{World}, OpeningRows.{IsOfStore}, Moment.{Moment, rows_alone}, NewTables.{IsMadeOf, LeavesAsMade}}
use Rattle.moo_store.specs.{Place.{Works}, Moves.{Stands}, World.{store_of}, declared.fault.StoreFault.{StoreFault}}
use Rattle.moo_files.specs.{Causes.{StopsOver}, Contents.{HoldsTrees, HasAnyTable, HoldsNoDatabase, HoldsNoTable}, Opened.{Attempt}}
use Rattle.moo_files.specs.{Remains.{IsCleanRemains, MayStopAs, KeepsNothingBut, KeepsSuch, Spares}, declared.remains.Remains.{Remains}}

-- these rows, or without any those of the opening world
abbrev pub rows_made : Option Rows → Maps
rows_made None = opening_maps
rows_made (Some rows) = rows.maps

-- what files may hold before a world is made in them: nothing, or half a first page, as a crash may leave it then; or a database
pub data Site : Type 0 where
  Empty : Site
  Filled : Trees → Site

-- the files hold what this site says
abbrev pub IsSite : Image → Site → Type 0
IsSite image Empty = HoldsNoDatabase image
IsSite image (Filled trees) = HoldsTrees image trees

-- a world is made in a database only if it has no table, whether the tables show a world or not
abbrev pub TakesWorld : Site → Type 0
TakesWorld Empty = ⊤
TakesWorld (Filled trees) = ¬ HasAnyTable trees

module _ {D : Type 0} {g : Ghosts D} where
  -- Why no world is made over an open connection, if the files had room for one: memory ran out, a call of the disk failed, or a row is too
  -- big or has no number left.
  abbrev pub StopsMaking : Image → StoreFault → Held (FileStore D g) → Type 0
  StopsMaking image fault conn = (site : Site) → IsSite image site → TakesWorld site → StopsOver ⊤ fault conn

  -- A world of these rows was made in files that had room for it. The World works at a moment that has the very rows, each in its printed
  -- cells, and no other row in any table.
  pub record IsMadeIn (rows : Maps) (image : Image) (world : World (FileStore D g)) : Type 0 where
    pub unseen : Stands over_files world (Works (rows_alone rows))
    pub seen : HasCleanDisk (store_of over_files world) → (m : Moment) × IsMadeOf rows m × Stands over_files world (Works m)
    pub room : HasCleanDisk (store_of over_files world) → HoldsNoTable image
    pub over : (site : Site) → IsSite image site → HasCleanDisk (store_of over_files world) → TakesWorld site

module _ {T D : Type 0} {g : Ghosts D} where
  -- What files hold after a refusal, if no world was made in them. A database stays as it is; one without any table may hold what was
  -- committed, if that has this property. Files without a database hold none still, or one without rows, or what was committed.
  abbrev pub KeepsSite : (Trees → Type 0) → Site → Image → Remains T D g → Type 0
  KeepsSite Made Empty image rest = KeepsNothingBut Made image rest
  KeepsSite Made (Filled trees) image rest = KeepsSuch (λ found. (found ≡ trees) ⊎ ((¬ HasAnyTable trees) × Made found)) image rest

  -- No world was made: the store failed, it had no room for it, or memory ran out. Files that held anything else are spared, sound or not.
  pub record IsUnmadeIn (Made : Trees → Type 0) (image : Image) (fault : StoreFault) (rest : Remains T D g) : Type 0 where
    pub of_store : IsOfStore fault
    pub stopped : MayStopAs fault rest
    pub spared : ¬ HoldsNoDatabase image → IsCleanRemains rest → Spares image rest
    pub kept : (site : Site) → IsSite image site → IsCleanRemains rest → KeepsSite Made site image rest

  -- what making the world of these rows in files answers: a World, or a fault and what is left of the files
  abbrev pub Makes : Maps → Image → Attempt T D g → Type 0
  Makes rows image (Ok world) = IsMadeIn rows image world
  Makes rows image (Err e) = IsUnmadeIn (λ found. LeavesAsMade found rows) image e.0 e.1
