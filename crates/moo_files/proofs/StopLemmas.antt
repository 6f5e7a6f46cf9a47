-- From what the disk leaves of the bytes of two files to a database that their store may leave.
use Rattle.moo_files.{proofs.Words.{inl, inr, IsTrue, refl, sym, subst, ◌∙◌, ∥∥₁_elim, ∥∥₁_map, IsSome, Ghosts, Image, outcomes, PageMap, Recovers, IsOurs, FileStore, clean_of, HasCleanDisk, Held, AreDatabases, file_state, Trees, State, schema_of, LeavesState, Moment, HasCellsOf, AreTreesOf, IsSparedMoment, Place, moment_of, CrashLeavesAt, HoldsSuch, HoldsTrees, IsLeftBy, IsCleanRemains, KeepsSuch, Remains}, specs.Stop.{DiskLeaves, IsNumberedStore, LeftStoreLeaves, BytesLeave, AreNumbered}, proofs.RemainsLemmas.{such_more}}
use mathlib.Core.HLevel.{Σ_prop_path}
use Rattle.sqlite_pool.{specs.StoredLaws.{recovers_once}, proofs.PoolLemmas.{pages_from}, proofs.ResealLemmas.{adopts_of}, proofs.StateLemmas.{clean_is, may_leave_is, size_is_allowed}}
use Rattle.sqlite_store.specs.FileStore.{state, view, files, schema_in, reading, recovers}
use Rattle.sqlite.specs.State.{State as Database}
use Rattle.moo_files.specs.declared.remains.Remains.TheVariants as remains
use Rattle.sqlite.specs.declared.file.Leftover.TheVariants as left

module _ {D : Type 0} {g : Ghosts D} (it : FileStore D g) (image : Image) where
  -- the files hold these pages, which are a file of the store's schema
  abbrev Has : PageMap → Type 0
  Has pages = Recovers (state it).page_size image pages × ∥ IsOurs (state it).page_size it.is_numbered (schema_in it pages) pages ∥₁

  abbrev HasOne : Type 0
  HasOne = (pages : PageMap) × ∥ Has pages ∥₁

  -- there are no others, so that they come out of a truncation
  one_prop : IsProp HasOne
  one_prop u v = Σ_prop_path (λ pages. squash₁) (pages_from u.0 v.0 u.1 (λ a. pages_from u.0 v.0 v.1 (λ b. recovers_once (state it).page_size image u.0 v.0 a.0 b.0)))

  has_one : (state it).may_leave image → HasOne
  has_one may = ∥∥₁_elim it.safe one_prop (λ all. let found = all image may in (found.0, ∣ (found.1, found.2) ∣₁))

  left_on_disk : IsTrue (view it).is_clean → IsTrue (view it).is_numbered → AreDatabases (recovers it) → outcomes g (files it).0 (files it).1 image → HoldsSuch (recovers it) image
  left_on_disk clean numbered sound lies =
      let may = may_leave_is it.pool image (sym (clean_is it.pool) ∙ clean) lies in
      let one = has_one may in
      let trees = reading it one.0 in
      let allowed : recovers it trees = (image, one.0, may, ∥∥₁_map one.1 (λ has. has.0), refl) in
      let schema = sound trees allowed in
      let holds : HoldsTrees image trees = ∥∥₁_elim one.1 squash₁ (λ has. ∥∥₁_elim (size_is_allowed it.pool) squash₁ (λ size. ∥∥₁_map has.1 (λ ours. (
        (state it).page_size,
        size,
        record {
          pages = one.0;
          wanted = schema_in it one.0;
          schema = schema.0;
          found = adopts_of (state it).page_size image one.0 has.0;
          reads = refl;
          sound = schema.1;
          ours = subst (λ b. IsOurs (state it).page_size b (schema_in it one.0) one.0) numbered ours;
        },
      )))) in
      record { trees = trees; holds = holds; such = allowed }

pub left_by_disk : {D : Type 0} {g : Ghosts D} (conn : Held (FileStore D g)) (image : Image) → HasCleanDisk (file_state conn) → IsNumberedStore conn.store → AreDatabases (file_state conn).may_leave → DiskLeaves conn.store image → IsLeftBy (file_state conn) image
left_by_disk conn image clean numbered sound lies = left_on_disk conn.store image (clean_of (view conn.store).is_clean clean) numbered sound lies

module _ {D : Type 0} {g : Ghosts D} where
  -- the bytes of a store that was left hold a database that it may leave
  pub left_by_store : (now : FileStore D g) (next : Image) → IsTrue (view now).is_clean → AreDatabases (recovers now) → LeftStoreLeaves now next → HoldsSuch (recovers now) next
  left_by_store now next clean sound (inl (numbered, lies)) = left_on_disk now next clean numbered sound lies
  left_by_store now next clean sound (inr holds) = holds

-- whatever the disk leaves of files over which no task ran holds what they kept
pub such_by_bytes : {T D : Type 0} {g : Ghosts D} (P : Trees → Type 0) (image : Image) (rest : Remains T D g) (next : Image) → AreDatabases P → IsCleanRemains rest → AreNumbered rest → HoldsSuch P image → KeepsSuch P image rest
    → BytesLeave image rest next → HoldsSuch P next
such_by_bytes P image (remains.Leftover (left.Files now)) next sound clean numbered holds keeps lies = keeps next lies
such_by_bytes P image (remains.Leftover (left.Unopened now)) next sound clean numbered holds keeps lies = (keeps next (may_leave_is now.pool next (sym (clean_is now.pool) ∙ clean) lies.0)).1 lies.1
such_by_bytes P image (remains.Leftover (left.Store now)) next sound clean numbered holds keeps lies =
    such_more (recovers now) P keeps next (left_by_store now next clean (λ trees may. sound trees (keeps trees may)) lies)
such_by_bytes P image (remains.Connection conn) next sound clean numbered holds keeps lies =
    such_more (file_state conn).may_leave P keeps next (left_by_disk conn next clean numbered (λ trees may. sound trees (keeps trees may)) lies)
such_by_bytes P image rest next sound clean numbered holds keeps is = subst (HoldsSuch P) (sym is) holds

-- what shows a state, or rows, is a database
pub state_is_database : (s : State) → AreDatabases (λ trees. LeavesState trees s)
state_is_database s trees leaves =
    let shown = leaves.leaves in
    (schema_of shown.tables.version, shown.leaves.sound)

-- so is what has the cells of a moment
pub moment_is_database : (m : Moment) → AreDatabases (HasCellsOf m)
moment_is_database m trees it = (schema_of it.0.tables.version, it.2.sound)

pub spared_are_databases : (m : Moment) → AreDatabases (λ trees. (end : Moment) × IsSparedMoment m end × AreTreesOf end trees)
spared_are_databases m trees it = moment_is_database it.0 trees it.2.1

pub places_are_databases : (store : Database) (place : Place) → IsSome (moment_of place).cells → CrashLeavesAt store place → AreDatabases store.may_leave
places_are_databases store place known leaves trees lies =
    let it = leaves known trees lies in
    moment_is_database it.0 trees it.2
