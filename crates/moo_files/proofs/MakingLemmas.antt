-- What follows of what making a world does, whatever that is; and how it is made and refused.
use Rattle.moo_files.{proofs.Words.{◌≡◌, ◌≢◌, ◌⊎◌, inl, inr, [], refl, sym, ap, subst, ◌∙◌, Trees, HasCleanDisk, Survives, Held, IsEmpty, file_state, Ghosts, FileStore, Files, Image, image_at, Leftover, Moment, AreTreesOf, IsSparedMoment, no_schema, Error, IsOfStore, StoreFault, SparesFiles, HoldsTrees, HoldsMoment, HoldsSuch, HoldsNothingBut, HasAnyTable, IsCleanRemains, IsUnopened, KeepsSuch, Remains}, specs.Connected.{IsConnected, IsNewOrFound}, specs.Making.{Site, Empty, Filled, IsSite, TakesWorld, KeepsSite, IsUnmadeIn}, specs.Start.{HoldStart}, proofs.RemainsLemmas.{keeps_more, blank_more, holds_same, spared_keeps, spared_none, unopened_keeps}, proofs.ContentsLemmas.{shows_trees, is_database, left_only, no_tables, none_left, or_committed}}
use Rattle.sqlite_disk.specs.declared.start.Start as start
use Rattle.sqlite.{specs.Schema.{Schema}, specs.Effect.{IsDatabase}}
use Rattle.moo_tables.proofs.SchemaLemmas.{some_tables, one_schema, no_other}
use Rattle.moo_store.specs.declared.fault.StoreFault.TheVariants.{Store, OutOfMemory}
use Rattle.moo_files.specs.declared.remains.Remains.TheVariants as remains

-- ---- what is left of files in which no world was begun

module _ {T D : Type 0} {g : Ghosts D} where
  site_more : (P Q : Trees → Type 0) → ((trees : Trees) → P trees → Q trees) → (image : Image) (r : Remains T D g) (site : Site) → KeepsSite P site image r → KeepsSite Q site image r
  site_more P Q goes image r Empty it = blank_more P Q goes image r it
  site_more P Q goes image r (Filled trees) it =
      keeps_more (λ found. (found ≡ trees) ⊎ ((¬ HasAnyTable trees) × P found)) (λ found. (found ≡ trees) ⊎ ((¬ HasAnyTable trees) × Q found))
      (λ found kept. elim kept [ inl same ↦ inl same | inr made ↦ inr (made.0, goes found made.1) ]) image r it

  pub unmade_more : (P Q : Trees → Type 0) → ((trees : Trees) → P trees → Q trees) → (image : Image) (fault : StoreFault) (r : Remains T D g) → IsUnmadeIn P image fault r → IsUnmadeIn Q image fault r
  unmade_more P Q goes image fault r it = record {
    of_store = it.of_store;
    stopped = it.stopped;
    spared = it.spared;
    kept = λ site is clean. site_more P Q goes image r site (it.kept site is clean);
  }

  -- a database that is kept as it is
  same_site : (image : Image) (r : Remains T D g) (trees : Trees) → KeepsSuch (λ found. found ≡ trees) image r → KeepsSite (λ _. ⊥) (Filled trees) image r
  same_site image r trees = keeps_more (λ found. found ≡ trees) (λ found. (found ≡ trees) ⊎ ((¬ HasAnyTable trees) × ⊥)) (λ found same. inl same) image r

  -- of files that weren't opened
  pub unopened_site : (image : Image) (r : Remains T D g) → IsUnopened r → (site : Site) → IsSite image site → KeepsSite (λ _. ⊥) site image r
  unopened_site image r unopened Empty none = unopened_keeps (HoldsNothingBut (λ _. ⊥)) (λ trees. IsEmpty trees ⊎ ⊥) image r unopened (inl none)
  unopened_site image r unopened (Filled trees) holds = same_site image r trees (unopened_keeps (HoldsSuch (λ found. found ≡ trees)) (λ found. found ≡ trees) image r unopened (holds_same refl holds))

-- of files that `sqlite` couldn't open
pub spared_site : {T D : Type 0} {g : Ghosts D} {first : start.Ghosts T} {files : Files D} (begun : HoldStart first g files) (rest : Leftover D g) → SparesFiles files rest
    → (site : Site) → IsSite (image_at first) site → KeepsSite {T = T} (λ _. ⊥) site (image_at first) (remains.Leftover rest)
spared_site begun rest spares Empty none = spared_none begun rest spares none
spared_site {T = T} {first = first} begun rest spares (Filled trees) holds = same_site {T = T} (image_at first) (remains.Leftover rest) trees (spared_keeps begun rest trees spares holds)

-- ---- what is left of files in which one was

-- what a new world can't be made for says nothing of tables
pub of_loading : {fault : StoreFault} {P : Type 0} {Q : Error → Type 0} → ((fault ≡ OutOfMemory) × P) ⊎ ((error : Error) × (fault ≡ Store error) × Q error) → IsOfStore fault
of_loading (inl (is, kept)) = subst IsOfStore (sym is) tt
of_loading (inr (error, is, cause)) = subst IsOfStore (sym is) tt

-- a database has tables, or it has none
schema_of_lists : (tables : _) (indexes : _) (views : _) → (schema : Schema) → schema ≡ record { tables = tables; indexes = indexes; views = views } → (schema ≡ no_schema) ⊎ (schema ≢ no_schema)
schema_of_lists [] [] [] schema is = inl is
schema_of_lists tables indexes views schema is = inr (λ none.
    let table : tables ≡ [] = ap (λ (s : Schema). s.tables) (sym is ∙ none) in
    let index : indexes ≡ [] = ap (λ (s : Schema). s.indexes) (sym is ∙ none) in
    let view : views ≡ [] = ap (λ (s : Schema). s.views) (sym is ∙ none) in
    absurd cc)

module _ {D : Type 0} {g : Ghosts D} {image : Image} {old : Held (FileStore D g)} (it : IsConnected (IsNewOrFound image) old) (early : HasCleanDisk (file_state old)) where
  pub takes_world : ¬ ((file_state old).now.schema ≢ no_schema) → (site : Site) → IsSite image site → TakesWorld site
  takes_world empty Empty none = tt
  takes_world empty (Filled trees) holds = λ any. empty (λ is. any (is_database it early trees no_schema holds is))

  table_cases : ((file_state old).now.schema ≡ no_schema) ⊎ ((file_state old).now.schema ≢ no_schema)
  table_cases = let schema = (file_state old).now.schema in schema_of_lists schema.tables schema.indexes schema.views schema refl

  -- files that have room for a world have no table as they are opened
  pub has_room : (site : Site) → IsSite image site → TakesWorld site → (file_state old).now.schema ≡ no_schema
  has_room Empty none room = no_tables it early none
  has_room (Filled trees) holds room = elim table_cases [
    | inl none ↦ none
    | inr some ↦
        let now = (file_state old).now in
        absurd (room (λ none. some (no_other now.trees now.schema (subst (λ trees. IsDatabase (record { schema = no_schema; trees = trees })) (sym (shows_trees it early trees holds)) none) ((it.opened early).1 (it.opened early).0.is_open).0)))
  ]

  pub keeps_site : (Made : Trees → Type 0) (new : Held (FileStore D g)) → ((file_state old).now.schema ≢ no_schema → new ≡ old) → (new ≡ old) ⊎ Survives (file_state old) (file_state new) Made → HasCleanDisk (file_state new)
      → (T : Type 0) (site : Site) → IsSite image site → KeepsSite {T = T} Made site image (remains.Connection new)
  keeps_site Made new taken crash clean T Empty none = or_committed old new Made IsEmpty crash clean (none_left it early none)
  keeps_site Made new taken crash clean T (Filled trees) holds = λ left lies.
      let was = left_only it early trees holds in
      elim table_cases [
        | inl none ↦ elim (or_committed old new Made (λ now. now ≡ trees) crash clean was left lies) [
          | inl same ↦ inl same
          | inr made ↦ inr (λ any. any (is_database it early trees no_schema holds none), made)
        ]
        | inr some ↦ inl (was left (subst (λ h. (file_state h).may_leave left) (taken some) lies))
      ]

-- ---- the laws

module _ {T D : Type 0} {g : Ghosts D} (Made : Trees → Type 0) (image : Image) (fault : StoreFault) (rest : Remains T D g) (unmade : IsUnmadeIn Made image fault rest) where
  pub trees_or_made : (trees : Trees) → HoldsTrees image trees → IsCleanRemains rest → KeepsSuch (λ found. (found ≡ trees) ⊎ Made found) image rest
  trees_or_made trees holds clean =
      keeps_more (λ found. (found ≡ trees) ⊎ ((¬ HasAnyTable trees) × Made found)) (λ found. (found ≡ trees) ⊎ Made found)
      (λ found kept. elim kept [ inl same ↦ inl same | inr made ↦ inr made.1 ]) image rest (unmade.kept (Filled trees) holds clean)

  pub table_kept : (trees : Trees) → HoldsTrees image trees → HasAnyTable trees → IsCleanRemains rest → KeepsSuch (λ found. found ≡ trees) image rest
  table_kept trees holds any clean =
      keeps_more (λ found. (found ≡ trees) ⊎ ((¬ HasAnyTable trees) × Made found)) (λ found. found ≡ trees)
      (λ found kept. elim kept [ inl same ↦ same | inr made ↦ absurd (made.0 any) ]) image rest (unmade.kept (Filled trees) holds clean)

  pub moment_kept : (m : Moment) → HoldsMoment image m → IsCleanRemains rest → KeepsSuch (λ trees. (end : Moment) × IsSparedMoment m end × AreTreesOf end trees) image rest
  moment_kept m holds clean =
      let it = holds.such.1 in
      let version = it.0.tables.version in
      let any : HasAnyTable holds.trees = (λ none. some_tables version (sym (one_schema version holds.trees no_schema it.2.sound none))) in
      keeps_more (λ found. found ≡ holds.trees) (λ trees. (end : Moment) × IsSparedMoment m end × AreTreesOf end trees) (λ found same. (m, inl refl, subst (AreTreesOf m) (sym same) holds.such)) image rest
      (table_kept holds.trees holds.holds any clean)
