-- What is left of files that held an image.
use Rattle.moo_files.{proofs.Words.{◌≡◌, ◌⊎◌, inl, inr, ℕ, ◌≤◌, false, IsTrue, refl, arith, sym, subst, ◌∙◌, ∥∥₁_elim, ∥∥₁_map, cases_eq, cases_Bool, Ghosts, Files, FileStore, Held, Image, IsIgnored, outcomes, stored_size, reserved, is_summed, StandsAs, IsUnreadable, size_by_log, size_by_file, reserved_word, state_of, Trees-set, Trees, IsNothing, IsEmpty, HoldsDatabase, NamesSize, SaysSums, BeginsWell, LeavesFiles, AreFoundIn, Finds, file_state, image_at, Leftover, IsBlank, SparesFiles, HoldsNoDatabase, HoldsTrees, HoldsSuch, HoldsNothingBut, ReadsAs, Remains, IsCleanRemains, IsUnopened, LeftoverKeeps, LeftoverSpares, KeepsAs, KeepsSuch, KeepsNothingBut, Spares}, proofs.BegunLemmas.{begun_unreadable, something, holds_none}, specs.Closing.{IsLeftOf, IsClosedFrom}, specs.Start.{HoldStart}, specs.Connected.{IsConnected, OnlyLeaves}}
use Rattle.moo_files.specs.declared.remains.Remains.TheVariants as remains
use Rattle.moo_files.specs.declared.pair.NotOpened.{NotOpened}
use Rattle.sqlite_disk.specs.declared.start.Start as start
use Rattle.sqlite_wal.specs.Recovery as raw
use Rattle.sqlite.{specs.State.{State as Database, HasCleanDisk}, specs.Held.{IsNew}, specs.Files.{IsOpened}, specs.Start.{FindsIn}}
use Rattle.sqlite.specs.declared.file.Leftover.TheVariants as left

-- ---- the page size of a database without sums

plain_size : (size : ℕ) → is_summed size ≡ false → stored_size size ≡ size
plain_size size plain = grind arith

large_of : (size : ℕ) → 512 ≤ stored_size size → 504 ≤ size
large_of size valid = let few : reserved size ≤ 8 = grind arith in omega (arith, valid)

-- the size that the files name is that of the database
named_size : (image : Image) (trees : Trees) (held : HoldsDatabase image trees) (size : ℕ) → NamesSize image (stored_size size) → stored_size held.0 ≡ stored_size size
named_size image trees held size names = elim (cases_eq (stored_size held.0) (stored_size size)) [
  | inl same ↦ same
  | inr other ↦
      let large = large_of held.0 held.1.0 in
      let seen = λ (read : ¬ IsIgnored image.log). other (sym (names.0 read ∙ size_by_log held.0 image held.2.pages held.2.found read)) in
      absurd (seen (λ ignored. other (sym (names.1 ignored ∙ size_by_file held.0 image held.2.pages held.2.found large held.2.ours.file.sound ignored))))
]

-- the first page of a database without sums doesn't say that there are any
says_none : (image : Image) (trees : Trees) (held : HoldsDatabase image trees) (size : ℕ) → stored_size held.0 ≡ stored_size size → is_summed held.0 ≡ false → ¬ SaysSums (stored_size size) image
says_none image trees held size same plain says =
    let word = reserved_word held.0 image held.2.pages held.2.found (large_of held.0 held.1.0) held.2.ours.file.sound in
    let found = subst (λ s. raw.Recovers s image held.2.found.stored) same held.2.found.found in
    let said = says held.2.found.stored word.0 found word.1 (word.2 ∙ same) in
    let none : reserved held.0 ≡ 0 = omega (arith, plain_size held.0 plain) in
    omega (arith, said, word.3, none)

same_size : (image : Image) (trees : Trees) (held : HoldsDatabase image trees) (size : ℕ) → NamesSize image (stored_size size) → (IsTrue (is_summed size) → SaysSums (stored_size size) image)
    → is_summed held.0 ≡ false → held.0 ≡ size
same_size image trees held size names says plain =
    let same = named_size image trees held size names in
    elim (cases_Bool (is_summed size)) [
      | inl summed ↦ absurd (says_none image trees held size same plain (says summed))
      | inr none ↦ sym (plain_size held.0 plain) ∙ same ∙ plain_size size none
    ]

-- what stands for the files of a database holds that database
stands_for : (image found : Image) (trees : Trees) (held : HoldsDatabase image trees) (size : ℕ) → held.0 ≡ size → StandsAs size image found → HoldsDatabase found trees
stands_for image found trees held size same stands =
    let it = held.2 in
    let now = subst (λ s. StandsAs s image found) (sym same) stands in
    (held.0, held.1, record { pages = it.pages; wanted = it.wanted; schema = it.schema; found = now.1 it.pages it.found; ours = it.ours; reads = it.reads; sound = it.sound })

-- ---- what `sqlite` leaves

-- files that hold no database read as none
pub found_empty : {image : Image} {db : Trees} → HoldsNoDatabase image → AreFoundIn image db → IsEmpty db
found_empty none (inl it) = absurd (∥∥₁_elim it.4 (λ x y. absurd x) (λ ours. something it.0 _ it.1 it.3 ours.file.sound none))
found_empty none (inr it) = it.1

-- what is so is so whether the pages end in checksums or not
plainly : {A B C : Type 0} → A → (A ⊎ B) × (C → A)
plainly it = (inl it, λ _. it)

-- files that hold the same database
pub holds_same : {found image : Image} {trees : Trees} → found ≡ image → HoldsTrees image trees → HoldsSuch (λ now. now ≡ trees) found
holds_same {found} {image} {trees} is holds = record { trees = trees; holds = subst (λ i. HoldsTrees i trees) (sym is) holds; such = refl }

-- a new connection outside a transaction shows this, and while it is open a crash leaves its last commit and nothing else
pub connects : {D : Type 0} {g : Ghosts D} {Shows : Database → Type 0} {conn : Held (FileStore D g)} → IsNew conn → (HasCleanDisk (file_state conn) → IsOpened conn) → (HasCleanDisk (file_state conn) → Shows (file_state conn)) → OnlyLeaves (file_state conn) → IsConnected Shows conn
connects fresh opened found left = record { outside = fresh.autocommit; unlimited = fresh.unlimited; opened = opened; found = found; left = left }

module _ {D T : Type 0} {g : Ghosts D} {first : start.Ghosts T} {files : Files D} (begun : HoldStart first g files) where
  -- what is found in them
  pub found_in : (conn : Held (FileStore D g)) → Finds files conn → FindsIn (image_at first) (file_state conn)
  found_in conn found = record {
    holds = λ trees held. found.holds trees (subst (λ i. HoldsDatabase i trees) (sym begun.seen) held);
    reads = subst (λ i. AreFoundIn i (file_state conn).committed.trees) begun.seen found.reads;
  }

  -- of files that held something, be it a sound database or not
  pub leftover_spares : (rest : Leftover D g) → LeavesFiles files rest → ¬ IsNothing (image_at first) → LeftoverSpares (image_at first) rest
  leftover_spares (left.Files now) leaves some = λ found lies. begun.left found (leaves found lies)
  leftover_spares (left.Unopened now) (inl nothing) some = absurd (some (subst IsNothing begun.seen nothing.0))
  leftover_spares (left.Unopened now) (inr leaves) some = λ found lies.
      let size = (state_of now).page_size in
      let it = leaves.4 found lies in
      record {
        same = elim it.same [
          | inl was ↦ inl (begun.left found was)
          | inr stands ↦ inr (subst (λ i. NamesSize i (stored_size size)) begun.seen leaves.1, subst (λ i. StandsAs size i found) begun.seen stands)
        ];
        unread = λ unreadable. begun.left found (it.unread (subst (IsUnreadable size) (sym begun.seen) unreadable));
        something = λ none. it.something (λ was. some (subst IsNothing (begun.left found was) none)) none;
      }
  leftover_spares (left.Store now) leaves some = λ found lies. subst (λ i. AreFoundIn i found) begun.seen (leaves found lies).0

  -- of files that held a database
  pub leftover_keeps : (rest : Leftover D g) (trees : Trees) → LeavesFiles files rest → HoldsTrees (image_at first) trees → LeftoverKeeps (HoldsSuch (λ now. now ≡ trees)) (λ now. now ≡ trees) (image_at first) rest
  leftover_keeps (left.Files now) trees leaves holds = λ found lies. holds_same (begun.left found (leaves found lies)) holds
  leftover_keeps (left.Unopened now) trees (inl nothing) holds = absurd (holds_none holds (inl (subst IsNothing begun.seen nothing.0)))
  leftover_keeps (left.Unopened now) trees (inr leaves) holds = λ found lies.
      let size = (state_of now).page_size in
      let says = subst (λ i. IsTrue (is_summed size) → SaysSums (stored_size size) i) begun.seen leaves.3 in
      elim (leftover_spares (left.Unopened now) (inr leaves) (λ nothing. holds_none holds (inl nothing)) found lies).same [
        | inl was ↦ plainly (holds_same was holds)
        | inr sealed ↦ (
          inr sealed,
          λ plain. record {
            trees = trees;
            holds = ∥∥₁_map holds (λ held. stands_for (image_at first) found trees held size (same_size (image_at first) trees held size sealed.0 says (plain trees held)) sealed.1);
            such = refl;
          },
        )
      ]
  leftover_keeps (left.Store now) trees leaves holds = λ found lies.
      ∥∥₁_elim holds (Trees-set _ _) (λ held. (leaves found lies).1 trees (subst (λ i. HoldsDatabase i trees) (sym begun.seen) held))

  -- of files that a blank database was to be made in, or that `sqlite` took up
  pub spared_spares : (rest : Leftover D g) → SparesFiles files rest → ¬ HoldsNoDatabase (image_at first) → LeftoverSpares (image_at first) rest
  spared_spares rest (inl blank) some = absurd (some (inr (subst IsBlank begun.seen blank.0)))
  spared_spares rest (inr leaves) some = leftover_spares rest leaves (λ nothing. some (inl nothing))

  pub spared_keeps : (rest : Leftover D g) (trees : Trees) → SparesFiles files rest → HoldsTrees (image_at first) trees → LeftoverKeeps (HoldsSuch (λ now. now ≡ trees)) (λ now. now ≡ trees) (image_at first) rest
  spared_keeps rest trees (inl blank) holds = absurd (holds_none holds (inr (subst IsBlank begun.seen blank.0)))
  spared_keeps rest trees (inr leaves) holds = leftover_keeps rest trees leaves holds

  -- a blank database was under way in them
  under_way : {Half : Type 0} (found : Image) → HoldsNoDatabase (image_at first) → (Half → HoldsNoDatabase found) → outcomes g files.log files.db found ⊎ (Half ⊎ ∥ ((db : Trees) × HoldsDatabase found db × IsEmpty db) ∥₁) → HoldsNothingBut (λ _. ⊥) found
  under_way found none half (inl was) = inl (subst HoldsNoDatabase (sym (begun.left found was)) none)
  under_way found none half (inr (inl still)) = inl (half still)
  under_way found none half (inr (inr made)) = inr (∥∥₁_map made (λ it. record { trees = it.0; holds = ∣ it.1 ∣₁; such = inl it.2 }))

  -- of files that held none
  pub spared_none : (rest : Leftover D g) → SparesFiles files rest → HoldsNoDatabase (image_at first) → LeftoverKeeps (HoldsNothingBut (λ _. ⊥)) (λ trees. IsEmpty trees ⊎ ⊥) (image_at first) rest
  spared_none (left.Files now) (inl blank) none = λ found lies. inl (subst HoldsNoDatabase (sym (begun.left found (blank.1 found lies))) none)
  spared_none (left.Files now) (inr leaves) none = λ found lies. inl (subst HoldsNoDatabase (sym (begun.left found (leaves found lies))) none)
  spared_none (left.Unopened now) (inl blank) none = λ found lies. plainly (under_way found none (λ half. inr half) (blank.1 found lies))
  spared_none (left.Unopened now) (inr (inl nothing)) none = λ found lies. plainly (under_way found none (λ still. inl still) (nothing.1 found lies))
  spared_none (left.Unopened now) (inr (inr leaves)) (inl nothing) = absurd (leaves.0 (subst IsNothing (sym begun.seen) nothing))
  spared_none (left.Unopened now) (inr (inr leaves)) (inr half) = λ found lies.
      let size = (state_of now).page_size in
      let none : IsUnreadable size (image_at first) = begun_unreadable (image_at first) size half (subst (λ i. NamesSize i (stored_size size)) begun.seen leaves.1) (subst (BeginsWell (stored_size size)) begun.seen leaves.2) in
      plainly (inl (inr (subst IsBlank (sym (begun.left found ((leaves.4 found lies).unread (subst (IsUnreadable size) (sym begun.seen) none)))) half)))
  spared_none (left.Store now) (inl blank) none = λ found lies. inl (blank.1 found lies)
  spared_none (left.Store now) (inr leaves) none = λ found lies. inl (found_empty none (subst (λ i. AreFoundIn i found) begun.seen (leaves found lies).0))

-- ---- from what `sqlite` leaves to the remains

pub such_more : (P Q : Trees → Type 0) → ((trees : Trees) → P trees → Q trees) → (image : Image) → HoldsSuch P image → HoldsSuch Q image
such_more P Q goes image it = record { trees = it.trees; holds = it.holds; such = goes it.trees it.such }

empty_or : (P Q : Trees → Type 0) → ((trees : Trees) → P trees → Q trees) → (trees : Trees) → IsEmpty trees ⊎ P trees → IsEmpty trees ⊎ Q trees
empty_or P Q goes trees (inl empty) = inl empty
empty_or P Q goes trees (inr it) = inr (goes trees it)

nothing_more : (P Q : Trees → Type 0) → ((trees : Trees) → P trees → Q trees) → (image : Image) → HoldsNothingBut P image → HoldsNothingBut Q image
nothing_more P Q goes image (inl none) = inl none
nothing_more P Q goes image (inr it) = inr (∥∥₁_map it (such_more _ _ (empty_or P Q goes) image))

module _ {T D : Type 0} {g : Ghosts D} where
  -- of files that weren't opened
  pub by_unopened : (K : Remains T D g → Type 0) → ((start : T) → K (remains.Untouched start)) → ((seal : NotOpened T) → K (remains.NotOpened seal)) → (r : Remains T D g) → IsUnopened r → K r
  by_unopened K untouched spent (remains.Untouched start) unopened = untouched start
  by_unopened K untouched spent (remains.NotOpened seal) unopened = spent seal
  by_unopened K untouched spent r unopened = absurd unopened

  pub unopened_keeps : (Is : Image → Type 0) (P : Trees → Type 0) (image : Image) (r : Remains T D g) → IsUnopened r → Is image → KeepsAs Is P image r
  unopened_keeps Is P image r unopened is = by_unopened (KeepsAs Is P image) (λ start. is) (λ seal. tt) r unopened

  pub unopened_spares : (image : Image) (r : Remains T D g) → IsUnopened r → Spares image r
  unopened_spares image = by_unopened (Spares image) (λ start. tt) (λ seal. tt)

  -- what is true of each database that is kept
  as_more : (Is Still : Image → Type 0) (P Q : Trees → Type 0) → ((found : Image) → Is found → Still found) → ((trees : Trees) → P trees → Q trees) → (image : Image) (r : Remains T D g) → KeepsAs Is P image r → KeepsAs Still Q image r
  as_more Is Still P Q still goes image (remains.Untouched start) it = still image it
  as_more Is Still P Q still goes image (remains.NotOpened seal) it = tt
  as_more Is Still P Q still goes image (remains.Leftover (left.Files now)) it = λ found lies. still found (it found lies)
  as_more Is Still P Q still goes image (remains.Leftover (left.Unopened now)) it = λ found lies.
      let was = it found lies in
      (elim was.0 [ inl held ↦ inl (still found held) | inr sealed ↦ inr sealed ], λ plain. still found (was.1 plain))
  as_more Is Still P Q still goes image r it = λ trees lies. goes trees (it trees lies)

  pub keeps_more : (P Q : Trees → Type 0) → ((trees : Trees) → P trees → Q trees) → (image : Image) (r : Remains T D g) → KeepsSuch P image r → KeepsSuch Q image r
  keeps_more P Q goes = as_more (HoldsSuch P) (HoldsSuch Q) P Q (such_more P Q goes) goes

  pub blank_more : (P Q : Trees → Type 0) → ((trees : Trees) → P trees → Q trees) → (image : Image) (r : Remains T D g) → KeepsNothingBut P image r → KeepsNothingBut Q image r
  blank_more P Q goes = as_more (HoldsNothingBut P) (HoldsNothingBut Q) (λ trees. IsEmpty trees ⊎ P trees) (λ trees. IsEmpty trees ⊎ Q trees) (nothing_more P Q goes) (empty_or P Q goes)

-- ---- closing

module _ {D : Type 0} {g : Ghosts D} (Is : Image → Type 0) (P : Trees → Type 0) (store : Database) (is : (found : Image) → HoldsSuch P found → Is found) where
  closed_keeps : (image : Image) (left : Leftover D g) → IsLeftOf store left → ((trees : Trees) → store.may_leave trees → P trees) → LeftoverKeeps Is P image left
  closed_keeps image (left.Files now) it keeps = λ found lies. is found (such_more store.may_leave P keeps found (it.1 found lies))
  closed_keeps image (left.Unopened now) it keeps = absurd it
  closed_keeps image (left.Store now) it keeps = λ trees lies. keeps trees (it trees lies)

module _ {T D : Type 0} {g : Ghosts D} (K : Remains T D g → Type 0) (goes : (conn : Held (FileStore D g)) (left : Leftover D g) → IsLeftOf (file_state conn) left → K (remains.Connection conn) → K (remains.Leftover left)) where
  -- what is true of the remains is true of them once they are closed
  still_closed : (was now : Remains T D g) → IsClosedFrom was now → (IsCleanRemains was → K was) → IsCleanRemains now → K now
  still_closed (remains.Connection conn) now it keeps = subst (λ (r : Remains T D g). IsCleanRemains r → K r) (sym it.1) (λ clean. goes conn it.0 (it.3 clean).1 (keeps (it.3 clean).0))
  still_closed was now is keeps = subst (λ (r : Remains T D g). IsCleanRemains r → K r) (sym is) keeps

module _ {T D : Type 0} {g : Ghosts D} where
  pub keeps_closed : (P : Trees → Type 0) (image : Image) (was now : Remains T D g) → IsClosedFrom was now → (IsCleanRemains was → KeepsSuch P image was) → IsCleanRemains now → KeepsSuch P image now
  keeps_closed P image = still_closed (KeepsSuch P image) (λ conn. closed_keeps (HoldsSuch P) P (file_state conn) (λ found it. it) image)

  pub blank_closed : (P : Trees → Type 0) (image : Image) (was now : Remains T D g) → IsClosedFrom was now → (IsCleanRemains was → KeepsNothingBut P image was) → IsCleanRemains now → KeepsNothingBut P image now
  blank_closed P image = still_closed (KeepsNothingBut P image) (λ conn. closed_keeps (HoldsNothingBut P) (λ trees. IsEmpty trees ⊎ P trees) (file_state conn) (λ found it. inr ∣ it ∣₁) image)

  -- no connection comes back over files that are no sound database
  pub spares_closed : (image : Image) (was now : Remains T D g) → IsClosedFrom was now → ((trees : Trees) → ¬ ReadsAs image trees) → (IsCleanRemains was → Spares image was) → IsCleanRemains now → Spares image now
  spares_closed image was now is none = still_closed (Spares image) (λ conn left leaves reads. absurd (none reads.0 reads.1)) was now is
