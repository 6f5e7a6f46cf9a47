-- Files that hold no database yet.
use Rattle.moo_files.proofs.Words.{◌≡◌, ◌⊎◌, ◌∙◌, true, inl, inr, ℕ, ◌<◌, [], IsTrue, ap, listed_from, refl, sym, subst, ∥∥₁_map, Ghosts, Files, OnlyReads, Image, AreWhole, outcomes, PageMap, IsPageSize, version_in, in_use, IsBlankFile, IsNew, stored_size, Recovers, StandsAs, IsUnreadable, is_summed, trimmed_whole, catalog_rows, all_trees, file_trees, IsOurs, state_of, Held, FileStore, Finds, file_state, HoldsDatabase, IsEmpty, IsNothing, LeavesFiles, NamesSize, BeginsWell, SaysSums, AreFoundIn, image_of, Leftover, same_image, empty_is_sound, IsBlank, LeavesBlank}
use Rattle.sqlite_pool.proofs.ResealLemmas.{adopts_of}
use Rattle.std.proofs.Common.{◌^◌}
use Rattle.sqlite_store.{specs.FileStore.{view, schema_of, recovers, IsReady}, specs.Db.{trees_in}, proofs.BuildLemmas.{new_is_empty}, proofs.ListingLemmas.{past_version, named_tree}}
use Rattle.sqlite_store.specs.Opening as store
use Rattle.sqlite_trees.specs.Tree.{Trees}
use Rattle.sqlite_wal.proofs.CleanLemmas.{both_clean}
use Rattle.sqlite.specs.Files.{IsKept}
use Rattle.sqlite.specs.declared.file.Leftover.TheVariants as left

empty_database : (size : ℕ) (image : Image) (pages : PageMap) → IsPageSize (stored_size size) → Recovers size image pages → IsOurs size true [] pages
    → (db : Trees) × HoldsDatabase image db × IsEmpty db
unfolding trees_in
empty_database size image pages valid found ours =
    let db = file_trees size [] pages in
    let unlisted = catalog_rows size [] (in_use size pages) in (
      db,
      (size, valid, record { pages = pages; wanted = []; schema = _; found = adopts_of size image pages found; ours = ours; reads = refl; sound = empty_is_sound db unlisted }),
      (λ tree low. past_version tree low (all_trees size [] (in_use size pages)) (version_in pages) ∙ named_tree tree low size [] (in_use size pages), unlisted),
    )

-- what `create` makes has no rows, and no table is listed
pub made_empty : {D : Type 0} {g : Ghosts D} (store : FileStore D g) → IsReady store → schema_of store ≡ [] → IsTrue (view store).is_clean
    → ((tree : ℕ) → tree < 2 ^ 32 → (view store).committed tree ≡ []) → IsEmpty (view store).trees
made_empty store ready none clean empty = (
  λ tree low. ap (λ d. d tree) ready.clean ∙ empty tree low,
  rw clean (catalog_rows _ _ _ ∙ ap (listed_from 0) none),
)

-- what `create` leaves on its way
pub on_the_way : (size : ℕ) (image : Image) → size ≡ 1024 → IsPageSize (stored_size size)
    → IsBlankFile size image ⊎ ((pages : PageMap) × Recovers size image pages × (IsNew size pages ⊎ ∥ store.IsFresh size [] pages ∥₁))
    → IsBlank image ⊎ ∥ ((db : Trees) × HoldsDatabase image db × IsEmpty db) ∥₁
on_the_way size image is valid (inl blank) = inl (subst (λ n. IsBlankFile n image) is blank)
on_the_way size image is valid (inr made) =
    inr (elim made.2 [
      | inl new ↦
          let whole : AreWhole size made.0 = subst (AreWhole size) made.1.shows (trimmed_whole size made.1.stored made.1.whole) in
          let empty = new_is_empty size made.0 whole new in
          ∣ empty_database size image made.0 valid made.1 (record { file = empty.0; numbered = λ _. record { listed = empty.1; spaced = refl; ordered = refl } }) ∣₁
      | inr fresh ↦ ∥∥₁_map fresh (λ it. empty_database size image made.0 valid made.1 it.0)
    ])

module _ {D : Type 0} {g : Ghosts D} {old new : Files D} (log : OnlyReads g old.log new.log) (db : OnlyReads g old.db new.db) where
  earlier : (image : Image) → outcomes g new.log new.db image → outcomes g old.log old.db image
  earlier image it = (log.crash _ it.0, db.crash _ it.1)

  same : image_of g new ≡ image_of g old
  same = same_image log db

  -- what is left after reads is left of the files as they were before
  pub blank_earlier : (rest : Leftover D g) → LeavesBlank new rest → LeavesBlank old rest
  blank_earlier (left.Files now) it = λ image lies. earlier image (it image lies)
  blank_earlier (left.Unopened now) it = λ image may. elim (it image may) [ inl was ↦ inl (earlier image was) | inr way ↦ inr way ]
  blank_earlier (left.Store now) it = it

  pub finds_earlier : (c : Held (FileStore D g)) → Finds new c → Finds old c
  finds_earlier c it = record {
    honest = both_clean _ _ _ _ log.clean db.clean it.honest;
    holds = λ trees held. it.holds trees (subst (λ i. HoldsDatabase i trees) (sym same) held);
    reads = subst (λ i. AreFoundIn i (file_state c).committed.trees) same it.reads;
  }

  kept_earlier : (size : ℕ) (image : Image) → IsKept g new size image → IsKept g old size image
  kept_earlier size image it = record {
    same = elim it.same [ inl was ↦ inl (earlier image was) | inr stands ↦ inr (subst (λ i. StandsAs size i image) same stands) ];
    unread = λ unreadable. earlier image (it.unread (subst (IsUnreadable size) (sym same) unreadable));
    something = λ fresh. it.something (λ was. fresh (earlier image was));
  }

  pub files_earlier : (rest : Leftover D g) → LeavesFiles new rest → LeavesFiles old rest
  files_earlier (left.Files now) it = λ image lies. earlier image (it image lies)
  files_earlier (left.Unopened now) (inl it) = inl (subst IsNothing same it.0, λ image may. elim (it.1 image may) [ inl was ↦ inl (earlier image was) | inr way ↦ inr way ])
  files_earlier (left.Unopened now) (inr it) =
      let size = (state_of now).page_size in
      let says = subst (λ i. (¬ IsNothing i) × NamesSize i (stored_size size) × BeginsWell (stored_size size) i × (IsTrue (is_summed size) → SaysSums (stored_size size) i)) same (it.0, it.1, it.2, it.3) in
      inr (says.0, says.1, says.2, says.3, λ image may. kept_earlier size image (it.4 image may))
  files_earlier (left.Store now) it = subst (λ i. (found : Trees) → recovers now found → AreFoundIn i found × ((db : Trees) → HoldsDatabase i db → found ≡ db)) same it
