-- What a connection to the files of a world shows of them, and what a crash leaves of it.
use Rattle.std.specs.Prelude.{◌≡◌, ◌≢◌, ◌⊎◌, IsTrue, None, false, ⊤}
use Rattle.sqlite_disk.specs.declared.Disk.{Ghosts}
use Rattle.sqlite_store.specs.declared.store.FileStore.{FileStore}
use Rattle.sqlite_wal.specs.Recovery.{Image}
use Rattle.sqlite.specs.{Tree.{Trees}, State.{State as Database, HasCleanDisk}, Held.{Held}, Files.{IsEmpty, IsOpened, file_state}}
use Rattle.sqlite.specs.Start.{FindsIn}
use Rattle.moo_store.specs.{OpeningRows.{not_ours}, declared.fault.StoreFault.{StoreFault}}
use Rattle.moo_files.specs.{Blank.{IsBlank}, Opened.{Contents, Nothing, Database as Holds, Unfit}}
use Rattle.moo_files.specs.{Remains.{ExcusesMalformed, KeepsNothingBut, KeepsSuch}, declared.remains.Remains.{Remains}}

-- the files held no database, or half a first page of one, and the connection shows no rows; or it shows what `sqlite` finds in them
abbrev pub IsNewOrFound : Image → Database → Type 0
IsNewOrFound image store = (IsBlank image × IsEmpty store.committed.trees) ⊎ FindsIn image store

-- while a store is open, a crash leaves its last commit, and nothing else
abbrev pub OnlyLeaves : Database → Type 0
OnlyLeaves store = IsTrue store.is_open → (trees : Trees) → store.may_leave trees → trees ≡ store.committed.trees

module _ {D : Type 0} {g : Ghosts D} where
  -- A connection is open, outside a transaction, and allows any number of steps of SQL. On a clean disk it works, and what it shows has
  -- this property.
  pub record IsConnected (Shows : Database → Type 0) (conn : Held (FileStore D g)) : Type 0 where
    pub outside : conn.in_transaction ≡ false
    pub unlimited : conn.step_limit ≡ None
    pub opened : HasCleanDisk (file_state conn) → IsOpened conn
    pub found : HasCleanDisk (file_state conn) → Shows (file_state conn)
    pub left : OnlyLeaves (file_state conn)

module _ {T D : Type 0} {g : Ghosts D} where
  -- The files hold this database, and no connection to it was opened. No fault says that it isn't ours, nor, unless the disk failed, that
  -- it is malformed. The files hold it still.
  pub record IsUnconnected (trees : Trees) (image : Image) (fault : StoreFault) (rest : Remains T D g) : Type 0 where
    pub own : fault ≢ not_ours
    pub malformed : ExcusesMalformed fault rest
    pub kept : KeepsSuch (λ found. found ≡ trees) image rest

  -- what is said, by what the files hold, if no connection to them was opened
  abbrev pub Unconnects : Contents → Image → StoreFault → Remains T D g → Type 0
  Unconnects Nothing image fault rest = KeepsNothingBut (λ _. ⊥) image rest
  Unconnects (Holds trees) image fault rest = IsUnconnected trees image fault rest
  Unconnects Unfit image fault rest = ⊤
