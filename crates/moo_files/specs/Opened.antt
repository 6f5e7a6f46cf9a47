-- What opening a file answers, by what the file holds.
use Rattle.std.specs.Prelude.{Result, IfOk, IfErr}
use Rattle.sqlite_disk.specs.declared.Disk.{Ghosts}
use Rattle.sqlite_store.specs.declared.store.FileStore.{FileStore}
use Rattle.sqlite_wal.specs.Recovery.{Image}
use Rattle.sqlite.specs.{State.{HasCleanDisk}, Files.{over_files, IsNothing}, Tree.{Trees}}
use Rattle.moo_rows.specs.Maps.{Maps}
use Rattle.moo_world.specs.{Judge.{State}, Rows.{IsGood}}
use Rattle.moo_tables_rows.specs.{Tables.{Tables}, Inside.{Leaves}}
use Rattle.moo_cells.specs.Shows.{ShowsRows}
use Rattle.moo_store.specs.{Kept.{World}, OpeningRows.{IsOfStore}, States.{LeavesState}}
use Rattle.moo_store.specs.{Moment.{Moment, rows_alone, AreTreesOf, BecomesPresent}, Place.{Works}, Moves.{Stands}, World.{store_of}}
use Rattle.moo_store.specs.declared.fault.StoreFault.{StoreFault}
use Rattle.moo_files.specs.Contents.{HoldsTrees, HoldsMoment, HasOtherTables, ReadsAsOurs, IsKept}
use Rattle.moo_files.specs.Remains.{IsCleanRemains, MayStopAs, TakesForOurs, ExcusesMalformed, KeepsNothingBut, Spares, StillHoldsTrees}
use Rattle.moo_files.specs.declared.remains.Remains.{Remains}

-- what opening a world in files answers, or making one
abbrev pub Attempt : (T D : Type 0) → Ghosts D → Type 0
Attempt T D g = Result (World (FileStore D g)) (StoreFault × Remains T D g)

-- what the files of a name may hold: nothing, a database, or what reads as no sound database with tables of ours
pub data Contents : Type 0 where
  Nothing : Contents
  Database : Trees → Contents
  Unfit : Contents

-- the files hold what these contents say
abbrev pub Hold : Image → Contents → Type 0
Hold image Nothing = IsNothing image
Hold image (Database trees) = HoldsTrees image trees
Hold image Unfit = ¬ ReadsAsOurs image

module _ {D : Type 0} {g : Ghosts D} where
  -- Whatever the files hold, a World that was opened works at a moment of its own rows, of whose cells nothing is said. The files read as a
  -- sound database with tables of ours.
  pub record IsOpenedOver (image : Image) (world : World (FileStore D g)) : Type 0 where
    pub unseen : Stands over_files world (Works (rows_alone world.rows.maps))
    pub sound : HasCleanDisk (store_of over_files world) → ReadsAsOurs image

  -- A World works at this moment, brought to the present version.
  abbrev pub OpensAt : Moment → World (FileStore D g) → Type 0
  OpensAt m world = (now : Moment) × BecomesPresent m now × Stands over_files world (Works now)

  -- A World was opened over this database: its tables are ours, and show good rows. The World works at their moment, brought to the
  -- present version. A crash leaves the database, or what it was migrated to.
  pub record OpensOver (trees : Trees) (world : World (FileStore D g)) : Type 0 where
    pub ours : ¬ HasOtherTables trees
    pub sound : (tables : Tables) → Leaves trees tables → (rows : Maps) × IsGood rows × ShowsRows tables rows
    pub present : (m : Moment) → AreTreesOf m trees → OpensAt m world
    pub kept : (found : Trees) → (store_of over_files world).may_leave found → IsKept trees found

  -- a World opens over a database of ours, and over nothing else
  abbrev pub Opens : Contents → World (FileStore D g) → Type 0
  Opens Nothing world = ⊥
  Opens (Database trees) world = OpensOver trees world
  Opens Unfit world = ⊥

module _ {T D : Type 0} {g : Ghosts D} where
  -- Files are refused, whatever they hold. If they weren't opened, the fault is CannotOpen, NotADatabase of an empty file, DatabaseBusy
  -- or OutOfMemory. Files that hold anything are spared.
  pub record IsRefusedFrom (image : Image) (fault : StoreFault) (rest : Remains T D g) : Type 0 where
    pub stopped : MayStopAs fault rest
    pub spared : ¬ IsNothing image → IsCleanRemains rest → Spares image rest

  -- This database is refused. No damage is told of a state or of tables that aren't ours, and no fault says of ours that they aren't. The
  -- files hold it still, or what it was migrated to.
  pub record RefusesOver (trees : Trees) (image : Image) (fault : StoreFault) (rest : Remains T D g) : Type 0 where
    pub state : (s : State) → LeavesState trees s → IsOfStore fault
    pub other : HasOtherTables trees → IsOfStore fault
    pub ours : (¬ HasOtherTables trees) → TakesForOurs fault rest
    pub malformed : ExcusesMalformed fault rest
    pub kept : StillHoldsTrees image rest trees

  -- what is said of a refusal, by what the files hold: no damage is told of anything but a database of ours
  abbrev pub Refuses : Contents → Image → StoreFault → Remains T D g → Type 0
  Refuses Nothing image fault rest = IsOfStore fault × KeepsNothingBut (λ _. ⊥) image rest
  Refuses (Database trees) image fault rest = RefusesOver trees image fault rest
  Refuses Unfit image fault rest = IsOfStore fault

module _ {T D : Type 0} {g : Ghosts D} where
  -- if the files hold a moment, a World that is opened works at it, brought to the present version
  abbrev pub OpensHeld : Image → Attempt T D g → Type 0
  OpensHeld image r = (m : Moment) → HoldsMoment image m → IfOk r (λ world. HasCleanDisk (store_of over_files world) → OpensAt m world)

  -- if the files hold a moment, and no World is opened, the store failed or memory ran out
  abbrev pub RefusesHeld : Image → Attempt T D g → Type 0
  RefusesHeld image r = (m : Moment) → HoldsMoment image m → IfErr r (λ e. IsCleanRemains e.1 → IsOfStore e.0)
