-- Why the world of tables isn't opened.
use Rattle.moo_store.{proofs.Words.{arith, inl, inr, ◌≡◌, ◌≢◌, ◌∙◌, sym, ap, subst, Version, Tables, schema_of, Rests, HasTables, ReadsTables, StoreFault, Store, OutOfMemory, HasCleanDisk, IsGood, Maps, ShowsRows, SaysOr, StopsBy, IsOfStore}}
use Rattle.moo_cells.proofs.CellsLemmas.{none_met, not_newer}
use Rattle.moo_tables.{specs.declared.reading.CellLists.{CellLists}, specs.Listing.{ListsTables, AreListed}, specs.ReadCause.{StopsQuery}, proofs.ReadCauseLemmas.{not_a_database, query_stops_since}, proofs.ReadLemmas.{fails_then, reads_then, rests_read}}
use Rattle.moo_tables_rows.specs.Cause.{StopsChange}
use Rattle.sqlite.{specs.State.{State as Database}, specs.declared.error.Error.{Error}, specs.declared.error.Error.TheVariants.{SqliteFailure}, specs.declared.error.ErrorCode.TheVariants.{NotADatabase}}
use Rattle.sqlite_trees.specs.declared.error.StoreError.TheVariants as kinds

-- rows that are read of tables come in the order of their keys
pub rows_rise : (lists : CellLists) (tables : Tables) → ListsTables lists tables → AreListed lists
rows_rise lists tables it = assumption

-- an error that is told as it is
pub told_so : (P : Error → Type 0) (error : Error) (fault : StoreFault) → ¬ P (SqliteFailure NotADatabase) → (error ≢ SqliteFailure NotADatabase → fault ≡ Store error) → P error → StopsBy P fault
told_so P error fault never same it = subst (StopsBy P) (sym (same (λ is. never (subst P is it)))) it

pub ran_out : (P : Error → Type 0) (fault : StoreFault) → fault ≡ OutOfMemory → StopsBy P fault
ran_out P fault is = subst (StopsBy P) (sym is) tt

pub stops_more : (P Q : Error → Type 0) (fault : StoreFault) → ((error : Error) → P error → Q error) → StopsBy P fault → StopsBy Q fault
stops_more P Q fault more it = grind arith

-- ---- what a fault says of tables

pub says_more : (P Q : Type 0) (tables : Tables) (fault : StoreFault) → (P → Q) → SaysOr P tables fault → SaysOr Q tables fault
says_more P Q tables fault more it = grind arith

-- a fault with a cause of the store, or want of memory, says nothing of them
pub says_cause : (P : Error → Type 0) (Q : Type 0) (tables : Tables) (fault : StoreFault) → (StopsBy P fault → Q) → StopsBy P fault → SaysOr Q tables fault
says_cause P Q tables fault more it = grind arith

pub says_of_store : (Q : Type 0) (tables : Tables) (fault : StoreFault) → IsOfStore fault → Q → SaysOr Q tables fault
says_of_store Q tables fault of it = grind arith

pub cause_of_store : (P : Error → Type 0) (fault : StoreFault) → StopsBy P fault → IsOfStore fault
cause_of_store P fault it = grind arith

-- nothing is wrong with tables that show good rows
pub of_store : (Q : Type 0) (tables : Tables) (rows : Maps) (fault : StoreFault) → ShowsRows tables rows → IsGood rows → SaysOr Q tables fault → IsOfStore fault
of_store Q tables rows fault shows good it = grind (arith, none_met, not_newer)

pub says_nothing : (Q : Type 0) (tables : Tables) (rows : Maps) (fault : StoreFault) → ShowsRows tables rows → IsGood rows → SaysOr Q tables fault → Q
says_nothing Q tables rows fault shows good it = grind (arith, none_met, not_newer)

-- ---- after other calls

pub has_tables : (store : Database) (version : Version) (tables : Tables) → Rests store tables → tables.version ≡ version → HasTables (schema_of version) store
has_tables store version tables rests is = rests.holds.schema ∙ ap schema_of is

-- a query stopped after others of the same tables
pub stopped_after : (version : Version) (old mid new : Database) (fault : StoreFault) → ReadsTables (schema_of version) old mid → HasTables (schema_of version) old → HasCleanDisk mid → StopsBy (StopsQuery mid new) fault → StopsBy (StopsQuery old new) fault
stopped_after version old mid new fault read has clean =
    let same = read.same clean has in
    let was = read.crash (λ _. has) in
    stops_more (StopsQuery mid new) (StopsQuery old new) fault (λ error. query_stops_since old mid new error was.counts was.limit same.0.is_open)

-- no cause of any change is that the file isn't a database
pub no_change_otherwise : (old new : Database) → ¬ StopsChange old new (SqliteFailure NotADatabase)
no_change_otherwise old new (inl (kinds.OutOfMemory, is, more)) = absurd cc
no_change_otherwise old new (inl (cause, is, more)) = absurd cc
no_change_otherwise old new (inr (inl h)) = absurd (let e = h.0 in cc)
no_change_otherwise old new (inr (inr h)) = absurd cc

-- what readings cite
pub ruleset readings = (reads_then, fails_then, rests_read, not_a_database, has_tables, told_so, stopped_after, ran_out, says_more, says_cause)
