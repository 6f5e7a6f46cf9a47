-- The words that most proofs of this crate share.
pub use Rattle.std.proofs.Common.{Bool, Err, IfErr, IfOk, IsTrue, List, Ok, Option, Result, Some, IsSome, IfSome, [], ap, ap₂, arith, cond, false, get_or-take, inl, inr, length, length-take, refl, rules, slice_index, subst, subst₂, sym, take, true, unwrap_or, ℕ, ◌&&◌, ◌++◌, ◌+◌, ◌<◌, ◌∙◌, ◌∷◌, ◌≡◌, ◌≢◌, ◌≤◌, ◌⊎◌}
pub use Rattle.std.proofs.Math.Logic.{∥∥₁_elim, ∥∥₁_map}
pub use Rattle.std.proofs.lemmas.Bool.{cases_Bool, cases_eq}
pub use Rattle.moo_cells.specs.Shows.{ShowsRows}
pub use Rattle.moo_rows.specs.Maps.{Maps}
pub use Rattle.moo_store.specs.OpeningRows.{Adopts, IsOfStore, not_ours}
pub use Rattle.moo_store.specs.Moment.{AreTreesOf, BecomesPresent, HasCellsOf, IsSparedMoment, Moment, rows_alone}
pub use Rattle.moo_store.specs.NewTables.{LeavesAsMade}
pub use Rattle.moo_store.specs.Place.{CrashLeavesAt, MayBeLeft, Place, Works, moment_of}
pub use Rattle.moo_store.specs.Kept.{World}
pub use Rattle.moo_store.specs.Moves.{Stands}
pub use Rattle.moo_store.specs.States.{LeavesRows, LeavesState, ShowsState}
pub use Rattle.moo_store.specs.World.{store_of}
pub use Rattle.moo_store.specs.declared.fault.StoreFault.{StoreFault}
pub use Rattle.moo_tables_rows.specs.Tables.{Tables, no_schema, schema_of}
pub use Rattle.moo_world.specs.Judge.{State}
pub use Rattle.moo_world.specs.Rows.{IsGood}
pub use Rattle.sqlite.proofs.FileLemmas.{is_something, same_image, stored_used}
pub use Rattle.sqlite.proofs.ListingLemmas.{empty_is_sound}
pub use Rattle.sqlite.specs.Files.{AreFoundIn, BeginsWell, FailsToOpenFiles, Finds, HoldsDatabase, IsCleanLeft, IsEmpty, IsNothing, LeavesFiles, NamesSize, SaysSums, faults_left, file_state, image_of, over_files, tally_left}
pub use Rattle.sqlite.specs.Held.{AreDatabases, Held}
pub use Rattle.sqlite.specs.State.{HasCleanDisk, IsLive, Opens, Survives, store_error}
pub use Rattle.sqlite.specs.Tree.{Trees}
pub use Rattle.sqlite.specs.WalFiles.{image_at}
pub use Rattle.sqlite.specs.declared.error.Error.{Error}
pub use Rattle.sqlite.specs.declared.file.Leftover.{Leftover}
pub use Rattle.sqlite_disk.specs.Events.{Event, replay, settled}
pub use Rattle.sqlite_disk.specs.declared.Disk.{Ghosts}
pub use Rattle.sqlite_disk.specs.declared.Files.{Files}
pub use Rattle.sqlite_pages.specs.PageMap.{PageMap}
pub use Rattle.sqlite_pool.proofs.ProbeLemmas.{first_byte, not_blank, reserved_word, size_by_file, size_by_log}
pub use Rattle.sqlite_pool.specs.File.{IsSoundFile, header_in, in_use, version_in}
pub use Rattle.sqlite_pool.specs.Header.{first_page_byte}
unfoldable pub use Rattle.sqlite_pool.specs.Header.{first_page}
pub use Rattle.sqlite_pool.specs.Opening.{IsBlankFile, IsNew}
pub use Rattle.sqlite_pool.specs.Stored.{IsUnreadable, Recovers, StandsAs, is_summed, reserved, sealed, stored_size, used_size}
pub use Rattle.sqlite_pool.specs.StoredLaws.{length-sealed, trimmed_some, trimmed_whole}
pub use Rattle.sqlite_store.specs.Listed.{catalog_rows}
pub use Rattle.sqlite_store.specs.Listing.{IsOurs, all_trees, file_trees, listed_from}
pub use Rattle.sqlite_store.specs.Unopened.{image, state_of}
pub use Rattle.sqlite_store.specs.declared.store.FileStore.{FileStore}
pub use Rattle.sqlite_trees.proofs.Doubt.{clean_of, no_doubt}
pub use Rattle.sqlite_trees.specs.Props.{Trees-set}
pub use Rattle.sqlite_wal.proofs.AppendLemmas.{some_value}
pub use Rattle.sqlite_wal.proofs.CreateLemmas.{begun_is_not_blank}
pub use Rattle.sqlite_wal.specs.Files.{outcomes, seen_image}
pub use Rattle.sqlite_wal.specs.PageSize.{IsPageSize, bytes_of, size_in_file}
pub use Rattle.sqlite_wal.specs.Reads.{AreClean, OnlyReads, are_clean, tally_of_files}
pub use Rattle.sqlite_wal.specs.Recovery.{AreWhole, Image, IsIgnored, Pages}
pub use Rattle.moo_files.specs.Blank.{IsBlank, LeavesBlank, SparesFiles}
pub use Rattle.moo_files.specs.Contents.{HasAnyTable, HasOtherTables, HoldsMoment, HoldsNoTable, HoldsNoDatabase, HoldsNothingBut, HoldsState, HoldsSuch, HoldsTables, HoldsTrees, IsKept, IsLeftBy, IsMigrated, ReadsAs, ReadsAsOurs}
pub use Rattle.moo_files.specs.Remains.{ExcusesMalformed, IsCleanRemains, IsUnopened, KeepsAs, KeepsNothingBut, KeepsSuch, LeftoverKeeps, LeftoverSpares, Spares, TakesForOurs, cannot_open, malformed}
pub use Rattle.moo_files.specs.declared.remains.Remains.{Remains}
