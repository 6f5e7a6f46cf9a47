-- From one run to a list of runs.
use Rattle.std.proofs.Common.{◌≡◌, inl, inr, Bool, true, false, List, [], ◌∷◌, ◌++◌, refl, sym, ap, subst}
use Rattle.std.proofs.lemmas.Bool.{false_from_ne_true}
use Rattle.sqlite_disk.specs.declared.Disk.{Ghosts}
use Rattle.sqlite_wal.specs.Recovery.{Image}
use Rattle.moo_rows.specs.Maps.{Maps}
use Rattle.moo_world.specs.declared.call.Batch.{Batch}
use Rattle.moo_store.specs.Moment.{Moment, IsSparedMoment, LeadsByEach, rows_alone}
use Rattle.moo_files.specs.Contents.{HoldsMoment}
use Rattle.moo_run.{specs.Run.{begins_anew}, specs.declared.ends.Ends.{Ends}}
use Rattle.moo_run.specs.declared.ends.Ends.TheVariants as variant
use Rattle.moo_run.specs.declared.session.HasRun as HasRun
use Rattle.moo_run_laws.{specs.FileRuns.{FileRun, IsFileRun, IsFoundOnCleanDisk}, specs.InTurn.{RunInTurn, LeadsOver, LeadInTurn}, proofs.LawLemmas.{any_at_moment, goes_by, starts_by}, proofs.LedLemmas.{led_alone, led_joins}}

spared_rows : (m next : Moment) → IsSparedMoment m next → rows_alone next.rows ≡ rows_alone m.rows
spared_rows m next (inl same) = ap (λ (x : Moment). rows_alone x.rows) same
spared_rows m next (inr (earlier, same)) = ap rows_alone same

module _ {S T D : Type 0} {g : HasRun.Ghosts S T D} {disk : Ghosts D} where
  -- the batches of a run lead from a moment to one that is found after it
  goes_on : (r : FileRun g disk) (ends : Ends T D disk) (next : Image) (m : Moment) → IsFileRun (record r { ends = ends }) → IsFoundOnCleanDisk (record r { ends = ends }) next → HoldsMoment r.image m
      → (end : Moment) × HoldsMoment next end × (own : List Batch) × LeadsOver (record r { ends = ends }) m own end
  goes_on r (variant.Ran conn) next m (inl (task, named, alone, runs, it)) found holds = by (begins_anew task) refl
    where
      by : (b : Bool) → begins_anew task ≡ b → (end : Moment) × HoldsMoment next end × (own : List Batch) × LeadsOver (record r { ends = variant.Ran conn }) m own end
      by false other =
          let at = (starts_by r next (HoldsMoment next) (λ t held. held) conn task it found).1.0 other m holds in
          let led = at.2.0.0.leads at.2.1 at.2.2 in
          (at.2.1, at.2.3, led.0, (task, named, at.0, at.1, at.2.0, at.2.2, led.1))
      by true anew =
          let early = (starts_by r next (HoldsMoment next) (λ t held. held) conn task it found).0 in
          absurd ((it.file (false_from_ne_true _ it.memory)).occupied holds.trees anew holds.holds (any_at_moment m holds.trees holds.such) early)
  goes_on r (variant.Ran conn) next m (inr (some, rests, usage, none)) found holds = absurd none
  goes_on r ends next m over found holds =
      let it = goes_by r next (HoldsMoment next) (λ t held. held) ends over found m holds in
      (it.0, it.2, [], (refl, it.1))

  pub history : (image found : Image) (runs : List (FileRun g disk)) (m : Moment) → RunInTurn image runs found → HoldsMoment image m → (end : Moment) × HoldsMoment found end × (batches : List Batch) × LeadInTurn m runs batches end
  history image found [] m it holds = (m, subst (λ i. HoldsMoment i m) (sym it) holds, [], (refl, refl))
  history image found (run ∷ runs) m (is, over, next, lies, rest) holds =
      let one = goes_on run run.ends next m over lies (subst (λ i. HoldsMoment i m) (sym is) holds) in
      let later = history next found runs one.0 rest one.1 in
      (later.0, later.1, one.2 ++ later.2, (one.2, later.2, one.0, one.3, later.3, refl))

  -- what is said of rows alone doesn't ask for a version
  leads_alone : (r : FileRun g disk) (ends : Ends T D disk) (m : Moment) (own : List Batch) (next : Moment) → LeadsOver (record r { ends = ends }) m own next → LeadsByEach (rows_alone m.rows) own (rows_alone next.rows)
  leads_alone r (variant.Ran conn) m own next (task, named, now, becomes, ran, may, led) = subst (λ (rows : Maps). LeadsByEach (rows_alone rows) own (rows_alone next.rows)) becomes.0 (led_alone now next own led)
  leads_alone r (variant.Refused rest) m own next (none, spared) = rw none (spared_rows m next spared)
  leads_alone r (variant.NoFile start) m own next (none, spared) = rw none (spared_rows m next spared)

  -- all their batches lead from the first rows to the last
  pub led_in_turn : (runs : List (FileRun g disk)) (m end : Moment) (batches : List Batch) → LeadInTurn m runs batches end → LeadsByEach (rows_alone m.rows) batches (rows_alone end.rows)
  led_in_turn [] m end batches (none, same) = rw none (ap (λ (x : Moment). rows_alone x.rows) same)
  led_in_turn (run ∷ runs) m end batches (own, later, next, leads, on, is) =
      rw is (led_joins (rows_alone m.rows) (rows_alone next.rows) (rows_alone end.rows) own later (leads_alone run run.ends m own next leads) (led_in_turn runs next end later on))
