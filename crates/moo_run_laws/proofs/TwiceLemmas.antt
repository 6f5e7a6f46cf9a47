-- From the law of the program to two runs of it.
use Rattle.std.proofs.Common.{◌≡◌, ◌⊎◌, inl, inr, Bool, true, false, IsTrue, codes, refl, sym, subst}
use Rattle.std.{proofs.lemmas.Bool.{false_from_ne_true, true_from_ne_false}, specs.Str.{bytes_eq}}
use Rattle.sqlite_disk.specs.declared.Disk.{Ghosts}
use Rattle.sqlite_store.specs.declared.store.FileStore.{FileStore}
use Rattle.sqlite_wal.specs.Recovery.{Image}
use Rattle.sqlite.specs.{Held.{Held}, declared.file.Leftover.{Leftover}}
use Rattle.sqlite.specs.declared.file.Leftover.TheVariants as left
use Rattle.moo_files.{specs.Closing.{IsClosedAs, IsClosedFrom}, specs.Remains.{IsCleanRemains}, specs.Stop.{KeepsTreesNumbered}, specs.declared.remains.Remains.{Remains}}
use Rattle.moo_files.specs.declared.remains.Remains.TheVariants as remains
use Rattle.moo_run.{specs.Ends.{IsClosedEnd}, specs.declared.ends.Ends.{Ends}}
use Rattle.moo_run.specs.declared.ends.Ends.TheVariants as variant
use Rattle.moo_run.specs.declared.session.HasRun as HasRun
use Rattle.moo_run_lines.specs.Lines.{store_failure}
use Rattle.moo_run_laws.{specs.Again.{IsFoundIn}, specs.FileRuns.{FileRun, IsFileRun, IsFoundAfter, run_of, Follows, HandsOver}, specs.Twice.{TellsEnd, RunsTwice, StopsAndRuns}, specs.Halted.{ClosedLeaves, EndLeaves, HaltsBefore}}

-- ---- what may be found after a run that comes to a stop

-- what wasn't open and is shut now was shut before, or is open still
still_open : (was now : Bool) → ¬ (IsTrue was × (now ≡ false)) → IsTrue now ⊎ (was ≡ false)
still_open was true never = inl refl
still_open true false never = absurd (never (refl, refl))
still_open false false never = inr refl

left_found : {D : Type 0} {g : Ghosts D} (T : Type 0) (image : Image) (conn : Held (FileStore D g)) (rest : Leftover D g) (next : Image) → IsClosedAs conn rest → KeepsTreesNumbered conn rest → ClosedLeaves {T = T} image conn (remains.Leftover rest) next → IsFoundIn {T = T} (remains.Leftover rest) next
left_found T image conn (left.Files now) next copied keeps bytes = inr bytes
left_found T image conn (left.Unopened now) next copied keeps bytes = absurd copied
left_found T image conn (left.Store now) next copied keeps (inl (open_still, bytes)) = inl (keeps (still_open _ _ open_still), bytes)
left_found T image conn (left.Store now) next copied keeps (inr holds) = inr holds

closed_found : {T D : Type 0} {g : Ghosts D} (image : Image) (conn : Held (FileStore D g)) (closed : Remains T D g) (next : Image) → IsClosedFrom (remains.Connection conn) closed → IsCleanRemains closed → ClosedLeaves image conn closed next → IsFoundIn closed next
closed_found {T} image conn closed next (rest, is, copied, closes) clean bytes =
    subst (λ it. IsFoundIn it next) (sym is) (left_found T image conn rest next copied (closes (subst IsCleanRemains is clean)).3 (subst (λ it. ClosedLeaves image conn it next) is bytes))

module _ {S T D : Type 0} {g : HasRun.Ghosts S T D} {disk : Ghosts D} where
  -- what the disk leaves at the end of a run may be found after it
  pub end_found : (r : FileRun g disk) (ends : Ends T D disk) (next : Image) → IsClosedEnd ends r.closed → IsCleanRemains r.closed → EndLeaves r.image ends r.closed next → IsFoundAfter (record r { ends = ends }) next
  end_found r (variant.Ran conn) next is clean bytes = inr (inr (closed_found r.image conn r.closed next is clean bytes))
  end_found r ends next is clean bytes = inr (inl bytes)

  -- ---- two runs

  tells_end : (r : FileRun g disk) (ends : Ends T D disk) → IsFileRun (record r { ends = ends }) → TellsEnd r.words ends (run_of r)
  tells_end r (variant.Ran conn) over = tt
  tells_end r (variant.Refused rest) (inl (task, named, alone, runs, it)) = elim (it.file (false_from_ne_true _ it.memory)).told [
    | inl fails ↦ (store_failure fails.0, fails.2)
    | inr dump ↦ (dump.2, dump.4)
  ]
  tells_end r (variant.Refused rest) (inr (some, rests, usage, none)) = absurd none
  tells_end r (variant.NoFile start) (inl (task, named, alone, runs, it)) = inl (task, named, true_from_ne_false (bytes_eq task.file.now (codes ":memory:")) it.file)
  tells_end r (variant.NoFile start) (inr (some, rests, usage, none)) = inr usage

module _ {S T D N U E : Type 0} (g : HasRun.Ghosts S T D) {disk : Ghosts D} (h : HasRun.Ghosts N U E) {other : Ghosts E}
    (law : (first : FileRun g disk) (next : FileRun h other) → Follows first next → HandsOver first next) (next_by : Ends U E other → FileRun h other)
    (then : (next_ends : Ends U E other) × IsFileRun (next_by next_ends) × IsClosedEnd (next_by next_ends).ends (next_by next_ends).closed) where
  pub runs_twice : (run_by : Ends T D disk → FileRun g disk) → (ends : Ends T D disk) × IsFileRun (run_by ends) × IsClosedEnd (run_by ends).ends (run_by ends).closed → RunsTwice g h run_by next_by
  runs_twice run_by (ends, ran, closed) = (
    ends,
    then.0,
    (
      (tells_end (run_by ends) (run_by ends).ends ran, closed),
      (tells_end (next_by then.0) (next_by then.0).ends then.1, then.2),
      λ clean found. law (run_by ends) (next_by then.0) (ran, then.1, inr (closed, clean, found)),
    ),
  )

  pub stops_and_runs : (run_by : Remains T D disk → FileRun g disk) → ((closed : Remains T D disk) → IsFileRun (run_by closed)) → StopsAndRuns g h run_by next_by
  stops_and_runs run_by over = (
    then.0,
    (
      (tells_end (next_by then.0) (next_by then.0).ends then.1, then.2),
      λ closed found. law (run_by closed) (next_by then.0) (over closed, then.1, found),
    ),
  )

module _ {S T D N U E : Type 0} (g : HasRun.Ghosts S T D) {disk : Ghosts D} (h : HasRun.Ghosts N U E) {other : Ghosts E} where
  -- two runs of which the first comes to a stop
  pub halts_before : (Began : S → Type 0) (run_by : S → Ends T D disk → FileRun g disk) (next_by : Ends U E other → FileRun h other)
      → (began : S) → Began began → RunsTwice g h (run_by began) next_by → HaltsBefore g h Began run_by next_by
  halts_before Began run_by next_by began is (ends, next_ends, (closed, then, goes)) =
      (began, is, ends, next_ends, (closed, then, λ clean bytes. let first = run_by began ends in goes clean (end_found first first.ends (next_by next_ends).image closed.1 clean bytes)))
