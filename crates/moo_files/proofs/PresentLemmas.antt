-- From the moment that files hold to that at which a World opens over them, and what a migration leaves of it.
use Rattle.moo_files.{proofs.Words.{◌≡◌, inl, inr, refl, ap, ap₂, sym, subst, ◌∙◌, Some, IfSome, Trees, Image, Ghosts, FileStore, Maps, IsGood, Tables, ShowsRows, Moment, AreTreesOf, BecomesPresent, IsSparedMoment, Works, World, Stands, HasCleanDisk, Held, file_state, over_files, HoldsTrees, IsKept, schema_of}, specs.Opened.{OpensAt}, specs.Connected.{IsConnected, IsNewOrFound}, proofs.ContentsLemmas.{rests_held, shows_trees}}
use Rattle.moo_cells.{proofs.CellsLemmas.{one_good}, proofs.GoodRows.{good_within}}
use Rattle.moo_tables.proofs.SchemaLemmas.{one_schema, one_version}
use Rattle.moo_tables_rows.{specs.Inside.{Rests, Leaves}, specs.Version.{IsEarlier}}
use Rattle.moo_store.specs.Opening.{RestsAtMoment}
use Rattle.moo_store.{specs.Current.{unread_of}, specs.Moment.{AllCells}}

-- tables show one list of good rows alone
pub one_rows : (tables : Tables) (rows m : Maps) → ShowsRows tables rows → IsGood rows → ShowsRows tables m → IsGood m → rows ≡ m
one_rows tables rows m shows good other also = one_good tables rows m shows (good_within rows good) other also

module _ {D : Type 0} {g : Ghosts D} {image : Image} {conn : Held (FileStore D g)} (connected : IsConnected (IsNewOrFound image) conn) (clean : HasCleanDisk (file_state conn)) (trees : Trees) (holds : HoldsTrees image trees) (world : World (FileStore D g))
    (seen : (tables : Tables) → Rests (file_state conn) tables → (m now : Moment) × RestsAtMoment (file_state conn) tables m × BecomesPresent m now × Stands over_files world (Works now)) where
  rests_in : (tables : Tables) → Leaves trees tables → Rests (file_state conn) tables
  rests_in tables leaves = rests_held connected clean tables (record { trees = trees; holds = holds; such = leaves })

  -- the rows of the moment at which it opens are good
  good_at : (m now : Moment) → BecomesPresent m now → Stands over_files world (Works now) → IsGood m.rows
  good_at m now becomes stands = subst IsGood becomes.0 (stands.good now refl)

  pub sound_at : (tables : Tables) → Leaves trees tables → (rows : Maps) × IsGood rows × ShowsRows tables rows
  sound_at tables leaves =
      let it = seen tables (rests_in tables leaves) in
      (it.0.rows, good_at it.0 it.1 it.3 it.4, it.2.shows)

  pub opens_at : (m : Moment) → AreTreesOf m trees → OpensAt m world
  opens_at m is =
      let c = is.1.0 in
      let it = seen c.tables (rests_in c.tables is.1.2) in
      let rows : it.0.rows ≡ m.rows = one_rows c.tables it.0.rows m.rows it.2.shows (good_at it.0 it.1 it.3 it.4) is.1.3 is.0 in
      let unread : unread_of (file_state conn).now.trees ≡ c.unread = ap unread_of (shows_trees connected clean trees holds) ∙ is.1.4 in
      let cells : it.0.cells ≡ m.cells = it.2.are ∙ ap (λ unread. Some (record { tables = c.tables; unread = unread })) unread ∙ sym is.1.1 in
      let same : it.0 ≡ m = ap₂ (λ rows cells. record { rows = rows; cells = cells }) rows cells in
      (it.1, subst (λ m. BecomesPresent m it.1) same it.3, it.4)

-- ---- what is kept of a database that has a moment

-- it has this moment still, or one of the same rows to which it was migrated
pub spared_kept : (m : Moment) (trees found : Trees) → AreTreesOf m trees → IsKept trees found → (end : Moment) × IsSparedMoment m end × AreTreesOf end found
spared_kept m trees found is (inl same) = (m, inl refl, subst (AreTreesOf m) (sym same) is)
spared_kept m trees found is (inr migrated) =
    let c = is.1.0 in
    let it = migrated.sound c.tables is.1.2 in
    let rows : it.0 ≡ m.rows = one_rows c.tables it.0 m.rows it.2 it.1 is.1.3 is.0 in
    let now : AllCells = record { tables = it.3.tables; unread = unread_of found } in
    let before = migrated.earlier in
    let same : before.0 ≡ c.tables.version = one_version before.0 c.tables.version (one_schema c.tables.version trees (schema_of before.0) is.1.2.sound before.2) in
    let earlier : IfSome m.cells (λ c. IsEarlier c.tables.version) = subst (λ cells. IfSome cells (λ (c : AllCells). IsEarlier c.tables.version)) (sym is.1.1) (subst IsEarlier same before.1) in
    (record { rows = m.rows; cells = Some now }, inr (earlier, refl), (is.0, (now, refl, it.3.leaves, subst (ShowsRows it.3.tables) rows it.3.shows, refl)))
