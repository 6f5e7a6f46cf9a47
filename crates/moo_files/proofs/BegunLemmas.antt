-- Half a first page isn't a whole page of any database.
use Rattle.moo_files.proofs.Words.{◌≡◌, ◌≤◌, ◌<◌, ℕ, List, [], ◌∷◌, length, take, unwrap_or, get_or-take, length-take, slice_index, Option, Some, true, false, ap, inl, inr, sym, ◌∙◌, arith, ∥∥₁_elim, cases_eq, Image, Pages, Trees, IsIgnored, IsBlankFile, IsSoundFile, header_in, trimmed_some, used_size, size_in_file, some_value, begun_is_not_blank, first_page, first_page_byte, stored_size, sealed, IsUnreadable, length-sealed, first_byte, NamesSize, BeginsWell, IsBlank, HoldsNoDatabase, HoldsTrees}
use Rattle.sqlite_pool.specs.Stored.{Adopts}
use Rattle.std.{proofs.lemmas.List.{length-map}, proofs.lemmas.List.FromFn.{length-range_with_len}, specs.List.{range_with_len}}
use Rattle.sqlite_wal.{specs.Format.{be32}, proofs.FormatLemmas.{be32-part}}

no_byte : (first : List ℕ) → length first ≡ 0 → slice_index first 0 ≡ 83 → ⊥
no_byte [] none byte = let never : 0 ≡ 83 = byte in omega (arith, never)
no_byte (x ∷ xs) none byte = omega (arith, none)

first_length : length (first_page 1024) ≡ 1024
unfolding first_page
first_length = length-map (range_with_len 0 1024) (first_page_byte 1024) ∙ length-range_with_len 0 1024

-- the size that such files name isn't one byte
named_large : (image : Image) (size : ℕ) → IsBlank image → 0 < length image.db → NamesSize image size → size ≡ 1 → ⊥
named_large image size begun present names one =
    let by_log : (¬ IsIgnored image.log) → ⊥ = λ read.
    elim begun [
      | inl none ↦ omega (arith, none, present)
      | inr half ↦ elim half.0 [
        | inl ignored ↦ read ignored.0
        | inr taken ↦
            let named : be32 image.log 8 ≡ length (sealed (first_page 1024)) = sym (be32-part image.log 0 32 8 (omega arith)) ∙ taken.0.head.size in
            omega (arith, named, names.0 read, one, length-sealed (first_page 1024), first_length)
      ]
    ] in
    by_log (λ ignored. let byte : size_in_file image.db ≡ 1 = sym (names.1 ignored) ∙ one in grind arith)

pub begun_unreadable : (image : Image) (size : ℕ) → IsBlank image → NamesSize image (stored_size size) → BeginsWell (stored_size size) image → IsUnreadable size image
begun_unreadable image size begun names begins pages found whole =
    let (first, is) = some_value (pages 1) whole.first in
    let len = whole.sized 1 first is in
    let byte = begins pages first found is len in
    let gate = first_byte 1024 (omega arith) in
    let some = λ (none : stored_size size ≡ 0). no_byte first (len ∙ none) byte in
    let more = λ (one : stored_size size ≡ 1). named_large image (stored_size size) begun found.present names one in
    let large : 1 < stored_size size = elim (cases_eq (stored_size size) 0) [
      | inl none ↦ absurd (some none)
      | inr any ↦ elim (cases_eq (stored_size size) 1) [ inl one ↦ absurd (more one) | inr other ↦ omega (arith, any, other) ]
    ] in
    begun_is_not_blank (sealed (first_page 1024)) first (stored_size size) image pages found is len large (byte ∙ sym gate) (λ none. let never = sym gate ∙ none in omega arith) begun

-- the first page of a sound file is whole, whatever its size
not_begun : (size : ℕ) (image : Image) (pages : Pages) → Adopts size image pages → IsSoundFile size pages → (other : ℕ) → 0 < other → ¬ IsBlankFile other image
not_begun size image pages found sound other some =
    let (page, is) = some_value (found.stored 1) found.whole.first in
    let used : pages 1 ≡ Some (take size page) = ap (λ (p : Pages). p 1) (sym found.shows) ∙ trimmed_some size _ 1 page is in
    let head : header_in pages ≡ take 100 (take size page) = ap (λ (o : Option (List ℕ)). take 100 (unwrap_or o [])) used in
    let magic = ap (take 16) (sym head) ∙ sound.header.0.magic in
    let long : 16 ≤ size = omega (arith, ap length magic, length-take 16 (take 100 (take size page)), length-take 100 (take size page), length-take size page) in
    let byte = sym (get_or-take size page 0 0 (omega (arith, long))) ∙ sym (get_or-take 100 (take size page) 0 0 (omega arith)) ∙ sym (get_or-take 16 (take 100 (take size page)) 0 0 (omega arith))
    ∙ ap (λ (b : List ℕ). slice_index b 0) magic in
    let gate = first_byte other some in
    begun_is_not_blank (sealed (first_page other)) page (stored_size size) image found.stored found.found is (found.whole.sized 1 page is) (omega (arith, long)) (byte ∙ sym gate) (λ none. let never = sym gate ∙ none in omega arith)

pub something : (size : ℕ) (image : Image) (pages : Pages) → Adopts size image pages → IsSoundFile size pages → ¬ HoldsNoDatabase image
something size image pages found sound (inl (inl plain)) = not_begun size image pages found sound (used_size 4096 false) (omega arith) plain
something size image pages found sound (inl (inr summed)) = not_begun size image pages found sound (used_size 4096 true) (omega arith) summed
something size image pages found sound (inr half) = not_begun size image pages found sound 1024 (omega arith) half

pub holds_none : {image : Image} {trees : Trees} → HoldsTrees image trees → ¬ HoldsNoDatabase image
holds_none holds none = ∥∥₁_elim holds (λ x y. absurd x) (λ held. something held.0 _ held.2.pages held.2.found held.2.ours.file.sound none)
