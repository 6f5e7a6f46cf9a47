-- The words that most proofs of this crate share.
pub use Rattle.std.proofs.Common.{Bool, Bor, Err, IfErr, IfOk, IfSome, IsTrue, List, None, Ok, OnOk, Option, Result, Some, [], ap, ap₂, arith, codes, false, inl, inr, length, map, refl, string_bytes, subst, subst₂, suc, sym, take, true, zero, ℕ, ◌<◌, ◌^◌, ◌∙◌, ◌≡◌, ◌≢◌, ◌≤◌, ◌⊎◌}
pub use Rattle.std.proofs.lemmas.Bool.{cases_Bool, false_from_ne_true, true≢false}
pub use Rattle.std.specs.Prelude.{IsSome, MatchResult, if◌then◌else◌, ⊤, ◌||◌}
pub use Rattle.std.specs.Str.{bytes_eq}
pub use Rattle.moo_load.specs.OneState.{IsHeld}
pub use Rattle.moo_rows.specs.Maps.{Maps}
pub use Rattle.moo_rows.specs.Opening.{opening_maps}
pub use Rattle.moo_store.specs.Kept.{World}
pub use Rattle.moo_store.specs.Moment.{AreTreesOf, IsSparedMoment, Moment, rows_alone, state_of_moment}
pub use Rattle.moo_store.specs.NewTables.{IsMadeOf, LeavesAsMade}
pub use Rattle.moo_store.specs.Place.{Between, Failed, LeavesJust, Place, Works}
pub use Rattle.moo_store.specs.Moves.{AsksAt, MovesBy, RunsAt, Stands}
pub use Rattle.moo_store.specs.Rehearsed.{RehearsesAt}
pub use Rattle.moo_store.specs.World.{state_of_world, store_of}
pub use Rattle.moo_cli.specs.declared.task.Task.{Task}
pub use Rattle.moo_world.specs.Judge.{State, state_of}
pub use Rattle.moo_world.specs.Rows.{IsGood}
pub use Rattle.moo_world.specs.declared.call.Batch.{Batch}
pub use Rattle.sqlite.specs.Files.{file_state, over_files}
pub use Rattle.sqlite.specs.Held.{Held, state}
pub use Rattle.sqlite.specs.State.{HasCleanDisk, Survives}
pub use Rattle.sqlite.specs.WalFiles.{image_at}
pub use Rattle.sqlite_disk.specs.declared.Disk.{Ghosts}
pub use Rattle.sqlite_wal.specs.Recovery.{Image}
pub use Rattle.moo_run.specs.Ends.{EndsWith, IsClosedEnd, RanOver, RefusedOver, RunsClosed, RunsFile, RunsOver}
pub use Rattle.moo_run.specs.Given.{Given, Run, given_to, texts_by}
pub use Rattle.moo_run_lines.specs.Lines.{Reports, Tells, checked_line, load_failure, loaded_line, read_failure, service_failure, store_failure, text_failure}
pub use Rattle.moo_run.specs.Run.{AnswersAs, AnswersText, BeginsFrom, BeginsWith, ComesOf, Done, EndsTask, EndsText, FailsAtOnce, FailsToBegin, FindsRows, IsOpening, KeepsInput, LeavesNothingNew, MayRefuse, ReadsFile, RefusesDump, RefusesFile, RunsAction, RunsAnew, RunsFrom, RunsIn, RunsMade, RunsNew, RunsTask, RunsUnseen, ShowsTables, StopsAs, StopsChecking, StopsIn, StopsServing, StopsTask, StopsText, course_status, line_of, begins_anew, dump_word, is_input, is_load, makes_world, only_reads, reads_input, serves}
pub use Rattle.moo_run_lines.specs.declared.failure.Failure.{Failure}
pub use Rattle.moo_run_lines.specs.declared.failure.Failure.TheVariants.{Damaged, NewerVersion, NoBatches, OutOfMemory, NotADump, Read, Store, TooLong, Write}
