-- From what the files hold to what a connection to them keeps.
use Rattle.moo_files.{proofs.Words.{◌≡◌, ◌≢◌, ◌⊎◌, inl, inr, ℕ, ◌≤◌, ap, arith, sym, subst, subst₂, ◌∙◌, ∥∥₁_elim, ∥∥₁_map, Trees-set, Trees, Image, HasCleanDisk, Survives, Opens, Held, IsEmpty, IsNothing, file_state, empty_is_sound, Ghosts, FileStore, State, Tables, schema_of, no_schema, ShowsState, Adopts, HoldsNoDatabase, HoldsTrees, HoldsTables, HoldsState, HasOtherTables, IsKept, ReadsAs, ReadsAsOurs, HoldsNoTable}, specs.Connected.{IsConnected, IsNewOrFound}, proofs.BegunLemmas.{holds_none}, proofs.RemainsLemmas.{found_empty}}
use Rattle.sqlite.{specs.Schema.{Schema}, specs.State.{State as Database}, specs.Start.{FindsIn}, specs.Effect.{IsDatabase}}
use Rattle.moo_store.specs.OpeningRows.{HasOthers}
use Rattle.moo_tables.{proofs.SchemaLemmas.{some_tables, one_schema, no_other}, proofs.ReopenLemmas.{opened}}
use Rattle.sqlite_catalog.specs.Listing.{IsSound}
use Rattle.moo_tables_rows.specs.Inside.{Rests, Leaves}

pub none_below : (n m : ℕ) → n ≤ m → m ≡ 0 → n ≡ 0
none_below n m le e = omega (arith, le, e)

-- a disk that returns what was written did so before
pub clean_either : {D : Type 0} {g : Ghosts D} (old new : Held (FileStore D g)) (Commits : Trees → Type 0) → (new ≡ old) ⊎ Survives (file_state old) (file_state new) Commits → HasCleanDisk (file_state new) → HasCleanDisk (file_state old)
clean_either old new Commits (inl same) clean = subst (λ h. HasCleanDisk (file_state h)) same clean
clean_either old new Commits (inr it) clean = none_below _ _ it.clean clean

-- what a refused call leaves is what it could leave before, or what it may commit
pub or_committed : {D : Type 0} {g : Ghosts D} (old new : Held (FileStore D g)) (Commits P : Trees → Type 0) → (new ≡ old) ⊎ Survives (file_state old) (file_state new) Commits → HasCleanDisk (file_state new)
    → ((trees : Trees) → (file_state old).may_leave trees → P trees) → (trees : Trees) → (file_state new).may_leave trees → P trees ⊎ Commits trees
or_committed old new Commits P (inl same) clean was trees lies = inl (was trees (subst (λ h. (file_state h).may_leave trees) same lies))
or_committed old new Commits P (inr it) clean was trees lies = elim (it.crash clean trees lies) [ inl old ↦ inl (was trees old) | inr made ↦ inr made ]

-- the files of a connection held nothing, or they read as its database
pub reads_found : {image : Image} {store : Database} → FindsIn image store → IsDatabase store.committed → IsNothing image ⊎ ReadsAs image store.committed.trees
reads_found {image} {store} found sound = elim found.reads [
  | inl it ↦ inr (∥∥₁_map it.4 (λ ours. (it.0, record { pages = it.1; wanted = it.2; schema = store.committed.schema; found = it.3; ours = ours; reads = it.5; sound = sound })))
  | inr it ↦ inl it.0
]

pub as_found : {D : Type 0} {g : Ghosts D} {image : Image} {conn : Held (FileStore D g)} → IsConnected (FindsIn image) conn → IsConnected (IsNewOrFound image) conn
as_found it = record { outside = it.outside; unlimited = it.unlimited; opened = it.opened; found = λ clean. inr (it.found clean); left = it.left }

module _ {D : Type 0} {g : Ghosts D} {image : Image} {conn : Held (FileStore D g)} (it : IsConnected (IsNewOrFound image) conn) (clean : HasCleanDisk (file_state conn)) where
  abbrev opens : Opens (file_state conn)
  opens = (it.opened clean).0

  abbrev sound : IsDatabase (file_state conn).now × IsDatabase (file_state conn).committed
  sound = (it.opened clean).1 opens.is_open

  -- ---- files that hold a database

  has_held : (trees : Trees) → HoldsTrees image trees → (file_state conn).committed.trees ≡ trees
  has_held trees holds = elim (it.found clean) [ inl made ↦ absurd (holds_none holds (inr made.0)) | inr found ↦ ∥∥₁_elim holds (Trees-set _ _) (found.holds trees) ]

  pub shows_trees : (trees : Trees) → HoldsTrees image trees → (file_state conn).now.trees ≡ trees
  shows_trees trees holds = ap (λ db. db.trees) opens.clean ∙ has_held trees holds

  -- a crash leaves it
  pub left_only : (trees : Trees) → HoldsTrees image trees → (left : Trees) → (file_state conn).may_leave left → left ≡ trees
  left_only trees holds left lies = it.left opens.is_open left lies ∙ has_held trees holds

  -- tables that the files hold rest in a connection to them
  pub rests_held : (tables : Tables) → HoldsTables image tables → Rests (file_state conn) tables
  rests_held tables holds = opened (file_state conn) tables opens sound.0 (subst (λ trees. Leaves trees tables) (sym (shows_trees holds.trees holds.holds)) holds.such)

  pub shows_held : (s : State) → HoldsState image s → ShowsState (file_state conn) s
  shows_held s holds =
      let leaves = holds.such.leaves in
      record {
        tables = leaves.tables;
        rests = rests_held leaves.tables (record { trees = holds.trees; holds = holds.holds; such = leaves.leaves });
        rows = holds.such.rows;
        shows = leaves.shows;
        good = holds.such.good;
        state = holds.such.state;
      }

  is_committed : (schema : Schema) → (file_state conn).now.schema ≡ schema → IsDatabase (record { schema = schema; trees = (file_state conn).committed.trees })
  is_committed schema is = subst₂ (λ schema trees. IsDatabase (record { schema = schema; trees = trees })) is (ap (λ db. db.trees) opens.clean) sound.0

  pub is_database : (trees : Trees) (schema : Schema) → HoldsTrees image trees → (file_state conn).now.schema ≡ schema → IsDatabase (record { schema = schema; trees = trees })
  is_database trees schema holds is = subst (λ trees. IsDatabase (record { schema = schema; trees = trees })) (has_held trees holds) (is_committed schema is)

  -- files that hold tables of ours have them as they are opened
  pub own_tables : (trees : Trees) → HoldsTrees image trees → (¬ HasOtherTables trees) → ¬ HasOthers (file_state conn)
  own_tables trees holds ours others = ours (λ version is. others version (one_schema version trees (file_state conn).now.schema is (subst (IsSound (file_state conn).now.schema) (shows_trees trees holds) sound.0)))

  -- what a crash leaves once it was opened is the database, or what it was migrated to
  pub kept_or_migrated : (trees : Trees) (new : Database) → HoldsTrees image trees → HasCleanDisk new → Survives (file_state conn) new (Adopts (file_state conn)) → (left : Trees) → new.may_leave left → IsKept trees left
  kept_or_migrated trees new holds now last left lies = elim (last.crash now left lies) [
    | inl was ↦ inl (left_only trees holds left was)
    | inr adopts ↦ inr (record {
      earlier = (adopts.0, adopts.1, is_database trees (schema_of adopts.0) holds adopts.2);
      state = λ s leaves. adopts.3 s (shows_held s (record { trees = trees; holds = holds; such = leaves }));
      sound = λ tables leaves. adopts.4 tables (rests_held tables (record { trees = trees; holds = holds; such = leaves }));
    })
  ]

  -- ---- files that hold none

  none_found : HoldsNoDatabase image → IsEmpty (file_state conn).committed.trees
  none_found none = elim (it.found clean) [ inl made ↦ made.1 | inr found ↦ found_empty none found.reads ]

  pub none_left : HoldsNoDatabase image → (left : Trees) → (file_state conn).may_leave left → IsEmpty left
  none_left none left lies = subst IsEmpty (sym (it.left opens.is_open left lies)) (none_found none)

  pub no_tables : HoldsNoDatabase image → (file_state conn).now.schema ≡ no_schema
  no_tables none =
      let now = (file_state conn).now in
      no_other now.trees now.schema (empty_is_sound now.trees (subst IsEmpty (sym (ap (λ db. db.trees) opens.clean)) (none_found none)).1) sound.0

  pub empty_other : HoldsNoDatabase image → HasOthers (file_state conn)
  empty_other none version is = some_tables version (sym is ∙ no_tables none)

  -- ---- what the files read as

  reads : HoldsNoDatabase image ⊎ ReadsAs image (file_state conn).committed.trees
  reads = elim (it.found clean) [ inl made ↦ inl (inr made.0) | inr found ↦ elim (reads_found found sound.1) [ inl nothing ↦ inl (inl nothing) | inr read ↦ inr read ] ]

  -- a World was opened over them, so that their tables are ours
  pub reads_ours : ¬ HasOthers (file_state conn) → ReadsAsOurs image
  reads_ours ours = elim reads [
    | inl none ↦ absurd (ours (empty_other none))
    | inr read ↦ ((file_state conn).committed.trees, read, λ others. ours (λ version is. others version (is_committed (schema_of version) is)))
  ]

  -- files that don't read as a database of ours have no tables of ours
  pub unsound_other : ¬ ReadsAsOurs image → HasOthers (file_state conn)
  unsound_other unsound = elim reads [
    | inl none ↦ empty_other none
    | inr read ↦ λ version is. unsound ((file_state conn).committed.trees, read, λ others. others version (is_committed (schema_of version) is))
  ]

  -- a world was made in them, so that they had room for it
  pub no_table : ¬ ((file_state conn).now.schema ≢ no_schema) → HoldsNoTable image
  no_table empty = elim reads [
    | inl none ↦ inl none
    | inr read ↦ inr ((file_state conn).committed.trees, read, λ any. empty (λ is. any (is_committed no_schema is)))
  ]

  pub found_something : ¬ HoldsNoDatabase image → (trees : Trees) × ReadsAs image trees
  found_something some = elim reads [ inl none ↦ absurd (some none) | inr read ↦ ((file_state conn).committed.trees, read) ]
