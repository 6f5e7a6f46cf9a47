use Rattle.moo_files.{proofs.Words.{sym, subst, inl, inr, image_at, IsBlank}, proofs.RemainsLemmas.{connects, found_in, spared_spares, unopened_spares}, proofs.MakingLemmas.{spared_site, unopened_site}, specs.Causes.{IsOpenable}}
use Rattle.moo_files.proofs.connecting.open_new.Goals as goal
use Rattle.sqlite_store.specs.Laws.{settled_at}

-- while it is open, a crash leaves its last commit and nothing else
pub returns-in-Ok-open_or_make-clause-connects : goal.returns-in-Ok-open_or_make-clause-connects
returns-in-Ok-open_or_make-clause-connects g c =
    let it = c.in-Ok-open_or_make.ensures in
    let start = c.in-Ok.ensures.start in
    let conn = c.in-Ok-open_or_make.made in
    connects it.fresh it.opened (λ clean. elim (it.found clean) [ inl made ↦ inl (subst IsBlank start.seen made.0, made.1) | inr found ↦ inr (found_in start conn found) ])
    (λ is_open trees lies. settled_at conn.store g.met.H.Disk.Disk.seen_may_stay trees is_open lies)

pub returns-in-Err-open_or_make-clause-unmade : goal.returns-in-Err-open_or_make-clause-unmade
returns-in-Err-open_or_make-clause-unmade g c =
    let start = c.in-Ok.ensures.start in
    let left = c.in-Err-open_or_make.left in
    let spared = c.in-Err-open_or_make.ensures.spared in
    record {
      of_store = c.open_fault.ensures.store;
      stopped = tt;
      spared = λ some clean. spared_spares start left (spared clean) some;
      kept = λ site is clean. spared_site start left (spared clean) site is;
    }

-- no file was opened
pub returns-in-Err-clause-unmade : goal.returns-in-Err-clause-unmade
returns-in-Err-clause-unmade g c =
    let it = c.in-Err.ensures in
    record {
      of_store = it.fault;
      stopped = it.stopped;
      spared = λ some clean. unopened_spares (image_at g.T.Start) c.in-Err.refused.1 it.unopened;
      kept = λ site is clean. unopened_site (image_at g.T.Start) c.in-Err.refused.1 it.unopened site is;
    }

-- ---- what refused it

pub returns-in-Err-open_or_make-clause-cause : goal.returns-in-Err-open_or_make-clause-cause
returns-in-Err-open_or_make-clause-cause g c openable clean =
    elim (c.in-Err-open_or_make.ensures.cause clean (subst IsOpenable (sym c.in-Ok.ensures.start.seen) openable)) [ inl memory ↦ inl (c.open_fault.ensures.memory memory) | inr disk ↦ inr disk ]
