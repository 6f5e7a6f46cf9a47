use Rattle.moo_files.{proofs.Words.{refl, inl, inr, image_at, HoldsSuch, HoldsNothingBut, IsEmpty}, specs.Opened.{Nothing, Database, Unfit}, proofs.RefusalLemmas.{opened_own, opened_malformed, unopened_malformed, opened_cause}, proofs.RemainsLemmas.{connects, found_in, holds_same, leftover_keeps, leftover_spares, spared_none, unopened_keeps}}
use Rattle.moo_files.proofs.connecting.open_connection.Goals as goal
use Rattle.sqlite_store.specs.Laws.{settled_at}
use Rattle.std.specs.Prelude.{◌≡◌, ◌⊎◌}

-- while it is open, a crash leaves its last commit and nothing else
pub returns-in-Ok-open_files-clause-connects : goal.returns-in-Ok-open_files-clause-connects
returns-in-Ok-open_files-clause-connects g c =
    let it = c.in-Ok-open_files.ensures in
    let conn = c.in-Ok-open_files.conn in
    connects it.fresh it.opened (λ clean. found_in c.in-Ok.ensures.start conn (it.found clean)) (λ is_open trees lies. settled_at conn.store g.met.H.Disk.Disk.seen_may_stay trees is_open lies)

pub returns-in-Err-open_files-clause-refused : goal.returns-in-Err-open_files-clause-refused
returns-in-Err-open_files-clause-refused g c = record {
  stopped = tt;
  spared = λ some clean. leftover_spares c.in-Ok.ensures.start c.in-Err-open_files.left (c.in-Err-open_files.ensures.unharmed clean) some;
}

pub returns-in-Err-open_files-clause-unconnects : goal.returns-in-Err-open_files-clause-unconnects
returns-in-Err-open_files-clause-unconnects g c Nothing nothing clean = spared_none c.in-Ok.ensures.start c.in-Err-open_files.left (inr (c.in-Err-open_files.ensures.unharmed clean)) (inl nothing)
returns-in-Err-open_files-clause-unconnects g c (Database trees) holds clean =
    let start = c.in-Ok.ensures.start in
    let left = c.in-Err-open_files.left in
    let told = c.open_fault.ensures in
    let cause = c.in-Err-open_files.ensures.cause clean in
    record {
      own = opened_own c.in-Err-open_files.error c.open_fault.result told.memory told.other c.in-Ok.pair.0 (image_at g.T.Start) start.seen trees holds left cause;
      malformed = opened_malformed c.in-Err-open_files.error c.open_fault.result told.memory told.other c.in-Ok.pair.0 (image_at g.T.Start) start.seen trees holds left cause;
      kept = leftover_keeps start left trees (c.in-Err-open_files.ensures.unharmed clean) holds;
    }
returns-in-Err-open_files-clause-unconnects g c Unfit none clean = tt

-- ---- no file was opened

pub returns-in-Err-clause-unconnects : goal.returns-in-Err-clause-unconnects
returns-in-Err-clause-unconnects g c Nothing nothing clean =
    unopened_keeps (HoldsNothingBut (λ _. ⊥)) (λ trees. IsEmpty trees ⊎ ⊥) (image_at g.T.Start) c.in-Err.refused.1 c.in-Err.ensures.unopened (inl (inl nothing))
returns-in-Err-clause-unconnects g c (Database trees) holds clean = record {
  own = c.in-Err.ensures.own.0;
  malformed = unopened_malformed c.in-Err.refused.0 c.in-Err.refused.1 c.in-Err.ensures.unopened c.in-Err.ensures.own.1;
  kept = unopened_keeps (HoldsSuch (λ found. found ≡ trees)) (λ found. found ≡ trees) (image_at g.T.Start) c.in-Err.refused.1 c.in-Err.ensures.unopened (holds_same refl holds);
}
returns-in-Err-clause-unconnects g c Unfit none clean = tt

-- ---- what refused a database

pub returns-in-Err-open_files-clause-cause : goal.returns-in-Err-open_files-clause-cause
returns-in-Err-open_files-clause-cause g c trees holds clean =
    let told = c.open_fault.ensures in
    opened_cause c.in-Err-open_files.error c.open_fault.result told.memory told.other c.in-Ok.pair.0 (image_at g.T.Start) c.in-Ok.ensures.start.seen trees holds c.in-Err-open_files.left (c.in-Err-open_files.ensures.cause clean)
