use Rattle.moo_files.{specs.Causes.{StopsOver}, proofs.Words.{schema_of, inl, inr, refl, subst, file_state, image_at, store_of, over_files}, specs.Opened.{Nothing, Database, Unfit}, proofs.PresentLemmas.{sound_at, opens_at}, proofs.ContentsLemmas.{none_below, as_found, reads_found, rests_held, shows_held, none_left, empty_other, is_database, unsound_other, reads_ours, own_tables, kept_or_migrated}, proofs.RefusalLemmas.{unfit_sound, unfit_of_store, refuses_unconnected, stops_over}}
use Rattle.moo_store.{specs.OpeningRows.{AreMigrated, StopsOpening}, proofs.Causes.{says_more}, proofs.OpenLemmas.{refused_of_store}}
use Rattle.moo_files.proofs.opening.open_from.Goals as goal

-- ---- a World was opened

pub returns-in-Ok-adopt_files-clause-opened : goal.returns-in-Ok-adopt_files-clause-opened
returns-in-Ok-adopt_files-clause-opened g c =
    let adopts = c.in-Ok-adopt_files.ensures.adopts in
    record { unseen = adopts.unseen; sound = λ clean. reads_ours (as_found c.in-Ok.ensures.connects) (none_below _ _ adopts.crash.clean clean) adopts.ours }

pub returns-in-Ok-adopt_files-clause-opens : goal.returns-in-Ok-adopt_files-clause-opens
returns-in-Ok-adopt_files-clause-opens g c Nothing none clean =
    let adopts = c.in-Ok-adopt_files.ensures.adopts in
    adopts.ours (empty_other (as_found c.in-Ok.ensures.connects) (none_below _ _ adopts.crash.clean clean) (inl none))
returns-in-Ok-adopt_files-clause-opens g c (Database trees) holds clean =
    let adopts = c.in-Ok-adopt_files.ensures.adopts in
    let it = as_found c.in-Ok.ensures.connects in
    let early = none_below _ _ adopts.crash.clean clean in
    let world = c.in-Ok-adopt_files.world in
    record {
      ours = λ others. adopts.ours (λ version is. others version (is_database it early trees (schema_of version) holds is));
      sound = sound_at it early trees holds world (λ tables rests. adopts.seen tables rests clean);
      present = opens_at it early trees holds world (λ tables rests. adopts.seen tables rests clean);
      kept = kept_or_migrated it early trees (store_of over_files world) holds clean adopts.crash;
    }
returns-in-Ok-adopt_files-clause-opens g c Unfit none clean = none ((returns-in-Ok-adopt_files-clause-opened g c).sound clean)

-- ---- the tables were refused

pub returns-in-Err-adopt_files-clause-refused : goal.returns-in-Err-adopt_files-clause-refused
returns-in-Err-adopt_files-clause-refused g c = record {
  stopped = tt;
  spared = λ some clean.
      let early = none_below _ _ c.in-Err-adopt_files.ensures.adopts.crash.clean clean in
      let connects = c.in-Ok.ensures.connects in
      elim (reads_found (connects.found early) ((connects.opened early).1 (connects.opened early).0.is_open).1) [ inl nothing ↦ absurd (some nothing) | inr reads ↦ ((file_state c.in-Ok.conn).committed.trees, reads) ];
}

pub returns-in-Err-adopt_files-clause-refuses : goal.returns-in-Err-adopt_files-clause-refuses
returns-in-Err-adopt_files-clause-refuses g c Nothing nothing clean =
    let adopts = c.in-Err-adopt_files.ensures.adopts in
    let it = as_found c.in-Ok.ensures.connects in
    let early = none_below _ _ adopts.crash.clean clean in
    let other = adopts.other (empty_other it early (inl nothing)) in
    (other.0, λ trees lies. inl (none_left it early (inl nothing) trees (subst (λ h. (file_state h).may_leave trees) other.1 lies)))
returns-in-Err-adopt_files-clause-refuses g c (Database trees) holds clean =
    let adopts = c.in-Err-adopt_files.ensures.adopts in
    let last = c.in-Err-adopt_files.conn in
    let it = as_found c.in-Ok.ensures.connects in
    let early = none_below _ _ adopts.crash.clean clean in
    record {
      state = λ s leaves. refused_of_store over_files c.in-Ok.conn last c.in-Err-adopt_files.fault adopts s (shows_held it early s (record { trees = trees; holds = holds; such = leaves })) clean;
      other = λ others. (adopts.other (λ version is. others version (is_database it early trees (schema_of version) holds is))).0;
      ours = λ ours other. own_tables it early trees holds ours (λ version is. adopts.own version is other);
      malformed = tt;
      kept = kept_or_migrated it early trees (file_state last) holds clean adopts.crash;
    }
returns-in-Err-adopt_files-clause-refuses g c Unfit none clean =
    let adopts = c.in-Err-adopt_files.ensures.adopts in
    (adopts.other (unsound_other (as_found c.in-Ok.ensures.connects) (none_below _ _ adopts.crash.clean clean) none)).0

-- ---- no connection was opened

-- ---- `sqlite` wasn't asked

pub returns-in-Some-clause-refuses : goal.returns-in-Some-clause-refuses
returns-in-Some-clause-refuses g c Nothing nothing clean = (unfit_of_store c.in-Some.fault c.in-Some.ensures.fault, inl (inl nothing))
returns-in-Some-clause-refuses g c (Database trees) holds clean = record {
  state = λ s leaves. unfit_of_store c.in-Some.fault c.in-Some.ensures.fault;
  other = λ others. unfit_of_store c.in-Some.fault c.in-Some.ensures.fault;
  ours = λ ours. tt;
  malformed = unfit_sound c.in-Some.fault c.in-Some.ensures.fault;
  kept = record { trees = trees; holds = holds; such = inl refl };
}
returns-in-Some-clause-refuses g c Unfit none clean = unfit_of_store c.in-Some.fault c.in-Some.ensures.fault

-- ---- what refused a database

-- ---- what refused tables

pub returns-in-Err-adopt_files-clause-stopped : goal.returns-in-Err-adopt_files-clause-stopped
returns-in-Err-adopt_files-clause-stopped g c tables holds clean =
    let adopts = c.in-Err-adopt_files.ensures.adopts in
    let conn = c.in-Ok.conn in
    let last = c.in-Err-adopt_files.conn in
    let fault = c.in-Err-adopt_files.fault in
    let connects = c.in-Ok.ensures.connects in
    let early = none_below _ _ adopts.crash.clean clean in
    says_more (StopsOpening tables (file_state conn) (file_state last) fault) (StopsOver (AreMigrated tables) fault last) tables fault
    (stops_over (file_state conn) last (connects.opened early).0.is_open connects.unlimited tables fault)
    (adopts.cause tables (rests_held (as_found connects) early tables holds) clean)

pub returns-in-Err-clause-refuses : goal.returns-in-Err-clause-refuses
returns-in-Err-clause-refuses g c held holds clean = refuses_unconnected (image_at g.T.Start) c.in-Err.fault c.in-Err.remains c.in-Err.ensures.fault held (c.in-Err.ensures.unconnects held holds clean)
