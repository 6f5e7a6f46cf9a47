-- What refused a database that was to be made or opened, and what the fault says of the files.
use Rattle.moo_files.{proofs.Words.{◌≡◌, ◌≢◌, ◌⊎◌, inl, inr, ℕ, arith, ◌<◌, IsTrue, refl, ap, Held, FileStore, file_state, sym, subst, ◌∙◌, ∥∥₁_elim, Ghosts, Files, Image, tally_of_files, Trees, Tables, store_error, FailsToOpenFiles, HoldsDatabase, IsNothing, faults_left, image_of, tally_left, Error, Leftover, not_ours, IsOfStore, StoreFault, HoldsTrees, ExcusesMalformed, IsUnopened, TakesForOurs, cannot_open, malformed, Remains, IsKept}, specs.Causes.{HasCauseOr, StopsOver, IsOpenable}, specs.Opened.{Contents, Nothing, Database, Unfit, Refuses}, specs.Connected.{Unconnects}, proofs.RemainsLemmas.{keeps_more, by_unopened}}
use Rattle.moo_files.specs.declared.remains.Remains.TheVariants as remains
use Rattle.moo_store.specs.OpeningRows.{AreMigrated, StopsOpening}
use Rattle.moo_tables_rows.specs.Cause.{StopsChange}
use Rattle.std.{specs.Prelude.{None, IsSome, ⊤}, proofs.lemmas.Bool.{true≢false}}
use Rattle.sqlite.{specs.Schema.{Schema}, specs.Opening.{FailsAs}, specs.Steps.{FailsToOpen}, specs.State.{State, HasCause as StoreCause}, specs.Files.{IsFullLeft}, specs.declared.error.Error.TheVariants.{SqliteFailure}, specs.declared.error.ErrorCode.{ErrorCode}}
use Rattle.sqlite_trees.specs.declared.error.StoreError.{StoreError}
use Rattle.sqlite_trees.specs.declared.error.StoreError.TheVariants as kinds
use Rattle.sqlite_store.specs.Report.{named}
use Rattle.sqlite_catalog.specs.Listing.{IsSound}
use Rattle.sqlite_disk.specs.Disk.{MoreFaults}
use Rattle.sqlite_store.specs.Opening as store
use Rattle.sqlite_store.specs.declared.error.OpenError.{OpenError}
use Rattle.sqlite_store.specs.declared.error.OpenError.TheVariants as opening
use Rattle.sqlite_wal.specs.Outcome.{HasCause, OnlyIf}
use Rattle.sqlite_wal.specs.declared.error.Error as log
use Rattle.sqlite_wal.specs.declared.error.Error.TheVariants as wal
use Rattle.sqlite.specs.declared.error.ErrorCode.TheVariants as codes
use Rattle.moo_store.specs.declared.fault.StoreFault.TheVariants as faults

abbrev memory : Error
memory = SqliteFailure codes.OutOfMemory

pub some_faults : (old new : ℕ) → MoreFaults old new → 0 < new
some_faults old new more = omega (arith, more)

-- making a blank database stopped
pub made_cause : (a b : ℕ) (Limit Wanted More : Type 0) (e : OpenError) (told : Error) → (e ≡ opening.OutOfMemory → told ≡ memory) → Wanted → (Limit → More) → store.FailsToOpen a b Limit Wanted e
    → (told ≡ memory) ⊎ ((0 < b) ⊎ More)
made_cause a b Limit Wanted More opening.OutOfMemory told is so more h = inl (is refl)
made_cause a b Limit Wanted More opening.Io told is so more h = inr (inl (some_faults a b h))
made_cause a b Limit Wanted More opening.Full told is so more h = inr (inr (more h))
made_cause a b Limit Wanted More opening.Refused told is so more h = absurd (h so)

-- reading the schema of a sound database stopped
pub over_cause : (a b : ℕ) (More : Type 0) (db : Trees) (e : Error) → (schema : Schema) → IsSound schema db → FailsToOpen db (MoreFaults a b) e → (e ≡ memory) ⊎ ((0 < b) ⊎ More)
over_cause a b More db e schema sound (inl refused) = absurd (refused.1 schema sound)
over_cause a b More db e schema sound (inr (kinds.OutOfMemory, is, h)) = inl is
over_cause a b More db e schema sound (inr (kinds.Broken, is, h)) = absurd h
over_cause a b More db e schema sound (inr (kinds.Unstorable, is, h)) = absurd h
over_cause a b More db e schema sound (inr (kind, is, h)) = inr (inl (some_faults a b h))

-- looking whether there is a database stopped
pub probe_cause : (a b : ℕ) (Limit More : Type 0) (e : log.Error) (told : Error) → (e ≡ wal.OutOfMemory → told ≡ memory) → (Limit → More) → HasCause a b (OnlyIf wal.Full Limit) e → (told ≡ memory) ⊎ ((0 < b) ⊎ More)
probe_cause a b Limit More (wal.Io io) told is more h = inr (inl (some_faults a b h))
probe_cause a b Limit More wal.OutOfMemory told is more h = inl (is refl)
probe_cause a b Limit More e told is more h = inr (inr (more h.1))

-- `sqlite` didn't open it
pub asked_cause : (kind : StoreError) (a b : ℕ) (Limit Wanted : Type 0) (e : Error) → ¬ ¬ Wanted → FailsAs kind a b Limit Wanted e → (e ≡ memory) ⊎ ((0 < b) ⊎ Limit)
asked_cause kind a b Limit Wanted e so (inl it) = inl it
asked_cause kind a b Limit Wanted e so (inr (inl it)) = absurd (so it.1)
asked_cause kind a b Limit Wanted e so (inr (inr (inl it))) = inr (inl (some_faults a b it.1))
asked_cause kind a b Limit Wanted e so (inr (inr (inr it))) = inr (inr it.1)

pub is_wanted : (image : Image) → IsOpenable image → ¬ ¬ (((db : Trees) × HoldsDatabase image db) ⊎ IsNothing image)
is_wanted image (inl nothing) never = never (inr nothing)
is_wanted image (inr some) never = ∥∥₁_elim some (λ x y. absurd x) (λ held. never (inl held))

-- ---- what a fault says of the files

own_kind : (kind : StoreError) → store_error kind ≢ SqliteFailure codes.NotADatabase
own_kind kinds.OutOfMemory is = cc
own_kind kind is = cc

-- an error of `sqlite` is told as this fault
module _ (error : Error) (fault : StoreFault) (as_memory : error ≡ memory → fault ≡ faults.OutOfMemory) (as_store : error ≢ memory → fault ≡ faults.Store error) where
  never_told : (code : ErrorCode) → error ≢ SqliteFailure code → fault ≢ faults.Store (SqliteFailure code)
  never_told code other is =
      let so = as_store (λ memory. let both : faults.OutOfMemory ≡ faults.Store (SqliteFailure code) = sym (as_memory memory) ∙ is in cc) in
      let both : faults.Store error ≡ faults.Store (SqliteFailure code) = sym so ∙ is in
      other cc

  module _ {D : Type 0} {g : Ghosts D} (files : Files D) (image : Image) (same : image_of g files ≡ image) (trees : Trees) (holds : HoldsTrees image trees) (left : Leftover D g) where
    wanted : ¬ ¬ (((db : Trees) × HoldsDatabase (image_of g files) db) ⊎ IsNothing (image_of g files))
    wanted none = ∥∥₁_elim holds (λ x y. absurd x) (λ held. none (inl (trees, subst (λ i. HoldsDatabase i trees) (sym same) held)))

    -- what refused a sound database
    pub opened_cause : FailsToOpenFiles files left error → (fault ≡ faults.OutOfMemory) ⊎ ((0 < faults_left left) ⊎ IsFullLeft left)
    opened_cause failed = elim (asked_cause _ _ _ _ _ error wanted failed) [ inl memory ↦ inl (as_memory memory) | inr disk ↦ inr disk ]

    -- a fault of the disk isn't told as files that aren't ours
    pub opened_own : FailsToOpenFiles files left error → fault ≢ not_ours
    opened_own (inl memory) ours = never_told codes.NotADatabase (λ is. cc) ours
    opened_own (inr (inl it)) ours = wanted it.1
    opened_own (inr (inr (inl it))) ours = never_told codes.NotADatabase (λ is. own_kind (named (tally_of_files g (files.log, files.db)) (tally_left left)) (sym it.0 ∙ is)) ours
    opened_own (inr (inr (inr it))) ours = never_told codes.NotADatabase (λ is. cc (it.0)) ours

    pub opened_malformed : FailsToOpenFiles files left error → fault ≡ malformed → 0 < faults_left left
    opened_malformed (inl memory) told_so = absurd (never_told codes.DatabaseCorrupt (λ is. cc) told_so)
    opened_malformed (inr (inl it)) told_so = absurd (wanted it.1)
    opened_malformed (inr (inr (inl it))) told_so = some_faults _ _ it.1
    opened_malformed (inr (inr (inr it))) told_so = absurd (never_told codes.DatabaseCorrupt (λ is. cc (it.0)) told_so)

-- before `sqlite` was asked
pub unfit_sound : (fault : StoreFault) → (fault ≡ cannot_open) ⊎ (fault ≡ not_ours) → fault ≢ malformed
unfit_sound fault (inl is) both = cc
unfit_sound fault (inr is) both = cc

pub unfit_of_store : (fault : StoreFault) → (fault ≡ cannot_open) ⊎ (fault ≡ not_ours) → IsOfStore fault
unfit_of_store fault (inl is) = subst IsOfStore (sym is) tt
unfit_of_store fault (inr is) = subst IsOfStore (sym is) tt

module _ {T D : Type 0} {g : Ghosts D} where
  pub unopened_malformed : (fault : StoreFault) (r : Remains T D g) → IsUnopened r → fault ≢ malformed → ExcusesMalformed fault r
  unopened_malformed fault r unopened other = by_unopened (ExcusesMalformed fault) (λ start. other) (λ seal. other) r unopened

  pub takes_for_ours : (fault : StoreFault) (r : Remains T D g) → fault ≢ not_ours → TakesForOurs fault r
  takes_for_ours fault (remains.Untouched start) other = tt
  takes_for_ours fault r other = other

  -- files to which there was no connection are refused with a fault of the store
  pub refuses_unconnected : (image : Image) (fault : StoreFault) (r : Remains T D g) → IsOfStore fault → (held : Contents) → Unconnects held image fault r → Refuses held image fault r
  refuses_unconnected image fault r store Nothing it = (store, it)
  refuses_unconnected image fault r store (Database trees) it = record {
    state = λ s leaves. store;
    other = λ others. store;
    ours = λ ours. takes_for_ours fault r it.own;
    malformed = it.malformed;
    kept = keeps_more (λ found. found ≡ trees) (IsKept trees) (λ found same. inl same) image r it.kept;
  }
  refuses_unconnected image fault r store Unfit it = store

-- no connection to them is open
pub unconnected_cause : {T D : Type 0} {g : Ghosts D} (Over : Held (FileStore D g) → Type 0) (Denied : Type 0) (fault : StoreFault) (r : Remains T D g) → HasCauseOr (λ _. ⊥) Denied fault r → HasCauseOr Over Denied fault r
unconnected_cause Over Denied fault (remains.Connection conn) cause = absurd cause
unconnected_cause Over Denied fault r cause = cause

-- ---- what stops the reading of tables over files, and their making

module _ {D : Type 0} {g : Ghosts D} (old : State) (last : Held (FileStore D g)) (is_open : IsTrue old.is_open) (unlimited : old.step_limit ≡ None) where
  module _ (Migrated : Type 0) where
    abbrev Stops : StoreFault → Type 0
    Stops fault = StopsOver Migrated fault last

    store_stops : (TooBig : Type 0) → (TooBig → Stops (faults.Store (SqliteFailure codes.TooBig))) → (e : Error) (kind : StoreError) → e ≡ store_error kind → StoreCause old (file_state last) TooBig kind → Stops (faults.Store e)
    store_stops TooBig big e kinds.OutOfMemory is h = inl (inr (ap faults.Store is))
    store_stops TooBig big e kinds.Broken is h = absurd (true≢false (sym is_open ∙ h))
    store_stops TooBig big e kinds.Unstorable is h = subst Stops (ap faults.Store (sym is)) (big h)
    store_stops TooBig big e kind is h = inr (inl (some_faults _ _ h))

    no_limit : IsSome old.step_limit → ⊥
    no_limit some = true≢false (sym (subst IsSome unlimited some))

    change_stops : (e : Error) → Migrated → StopsChange old (file_state last) e → Stops (faults.Store e)
    change_stops e migrated (inl (kind, is, h)) = store_stops _ (λ _. inr (inr (migrated, inl refl))) e kind is h
    change_stops e migrated (inr (inl h)) = absurd (no_limit h.1)
    change_stops e migrated (inr (inr h)) = inr (inr (migrated, inr (ap faults.Store h)))

  pub stops_over : (tables : Tables) (fault : StoreFault) → StopsOpening tables old (file_state last) fault → StopsOver (AreMigrated tables) fault last
  stops_over tables (faults.Store e) (inl (inl h)) = store_stops (AreMigrated tables) ⊥ (λ never. absurd never) e h.0 h.1 h.2
  stops_over tables (faults.Store e) (inl (inr h)) = absurd (no_limit (AreMigrated tables) h.1)
  stops_over tables (faults.Store e) (inr h) = change_stops (AreMigrated tables) e h.0 h.1
  stops_over tables faults.OutOfMemory it = inl (inl refl)
  stops_over tables fault it = absurd it

  -- a world is made over a connection that was open without tables
  pub making_stops : {Kept Clean Empty : Type 0} (fault : StoreFault) → Clean → Empty → ((fault ≡ faults.OutOfMemory) × Kept) ⊎ ((error : Error) × (fault ≡ faults.Store error) × (Clean → Empty → StopsChange old (file_state last) error))
      → StopsOver ⊤ fault last
  making_stops fault clean empty (inl (is, kept)) = inl (inl is)
  making_stops fault clean empty (inr (error, is, cause)) = subst (λ f. StopsOver ⊤ f last) (sym is) (change_stops ⊤ error tt (cause clean empty))
