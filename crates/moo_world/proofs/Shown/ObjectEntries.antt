-- The ascending lists of objects of the world that maps show are lists of the maps' entries.
use Rattle.moo_world.{proofs.Lemmas.{◌≡◌, ℕ, zero, suc, ◌<◌, ◌≤◌, Bool, true, false, cond, ◌||◌, T, Option, None, Some, List, [], ◌∷◌, ◌++◌, map, Less, refl, sym, ap, ◌∙◌, arith, pos, append-nil, is_some, option_map, int_cmp_is, filter, filter_map, cons_option, AllByRecursion, get, get-entries, is_sorted, entries, entries_sorted, same_entries, find-append, ints, filter_map-append, ObjNo, ObjRow, Maps, object_cmp, object_exact, object_total, object_at, same_object, is_among, same_object-Decides, same_object-eq, IsTree, is_object, row_passes, numbers_to, numbers_below, look_ups, world_of, objects_of, object_key, is_among-append, is_object_seen, passes_seen, numbered, assigned}, proofs.Shown.EntriesInOrder.{all_then, sorted_then, past_each, own_entries, filter_map-read, filter_alike, all_weaker}}
use Rattle.std.specs.FinMap.{find}

pub same_object-symm : (x y : ObjNo) → same_object x y ≡ same_object y x
unfolding same_object
same_object-symm x y = same_object-eq y x

less_number : (n m : ℕ) → n < m → object_cmp (object_at n) (object_at m) ≡ Less
less_number n m h = sym (int_cmp_is (pos n) (pos m) Less (omega (arith, ints)))

module _ (t : Maps) where
  -- the entry of a number
  abbrev entry_at : ℕ → Option (ObjNo × ObjRow)
  entry_at n = option_map (λ r. (object_at n, r)) (get t.objects (object_at n))

  abbrev entries_below : ℕ → List (ObjNo × ObjRow)
  entries_below n = filter_map entry_at (numbers_below n)

  one_more : (n : ℕ) → entries_below (suc n) ≡ entries_below n ++ cons_option (entry_at n) []
  one_more n = filter_map-append entry_at (numbers_below n) (n ∷ [])

  all_below : (n m : ℕ) → n ≤ m → AllByRecursion (λ e. object_cmp e.0 (object_at m) ≡ Less) (entries_below n)
  all_below zero m h = tt
  all_below (suc n) m h = grind (arith, all_below n m, one_more, append-nil, all_then, less_number)

  sorted_below : (n : ℕ) → T (is_sorted object_cmp (entries_below n))
  sorted_below zero = tt
  sorted_below (suc n) = grind (arith, sorted_below n, one_more, append-nil, sorted_then, all_below)

  abbrev objects_below : ℕ → List ObjNo
  objects_below n = map object_at (numbers_below n)

  objects_more : (n : ℕ) → objects_below (suc n) ≡ objects_below n ++ object_at n ∷ []
  objects_more n = mapped (numbers_below n)
    where
      mapped : (l : List ℕ) → map object_at (l ++ n ∷ []) ≡ map object_at l ++ object_at n ∷ []
      mapped [] = refl
      mapped (i ∷ l) = ap (λ r. object_at i ∷ r) (mapped l)

  -- what a key holds is found among them where its number is below
  found_below : (n : ℕ) (q : ObjNo) → find object_cmp q (entries_below n) ≡ cond (is_among q (objects_below n)) (get t.objects q) None
  found_below zero q = refl
  found_below (suc n) q =
      ap (find object_cmp q) (one_more n) ∙ by (get t.objects (object_at n)) refl (found_below n q)
      ∙ ap (λ b. cond b (get t.objects q) None) (sym (ap (is_among q) (objects_more n) ∙ is_among-append q (objects_below n) (object_at n ∷ [])))
    where
      old : Option ObjRow
      old = cond (is_among q (objects_below n)) (get t.objects q) None

      absent : (a b : Bool) (o : Option ObjRow) → (b ≡ true → o ≡ None) → cond a o None ≡ cond (a || (b || false)) o None
      absent a b o f = grind arith

      present : (a b : Bool) (o : Option ObjRow) (r : ObjRow) → (b ≡ true → o ≡ Some r) → cond b (Some r) (cond a o None) ≡ cond (a || (b || false)) o None
      present a b o r f = grind arith

      by : (o : Option ObjRow) → get t.objects (object_at n) ≡ o → find object_cmp q (entries_below n) ≡ cond (is_among q (objects_below n)) (get t.objects q) None
          → find object_cmp q (entries_below n ++ cons_option (option_map (λ r. (object_at n, r)) o) []) ≡ cond (is_among q (objects_below n) || (same_object q (object_at n) || false)) (get t.objects q) None
      by None e h =
          ap (find object_cmp q) (append-nil (entries_below n)) ∙ h
          ∙ absent _ _ _ (λ s. ap (get t.objects) ((same_object-Decides q (object_at n)).0 s) ∙ e)
      by (Some r) e h =
          find-append object_cmp object_total (entries_below n) (object_at n) r q (past_each object_cmp object_total (entries_below n) (object_at n) (all_below n n (omega arith)))
          ∙ (λ i. cond ((object_key (object_at n) q ∙ same_object-symm (object_at n) q) i) (Some r) (h i))
          ∙ present _ _ _ _ (λ s. ap (get t.objects) ((same_object-Decides q (object_at n)).0 s) ∙ e)

  -- their keys
  keys_listed : (l : List ℕ) → map (λ e. e.0) (filter_map entry_at l) ≡ filter (is_object (world_of t)) (map object_at l)
  keys_listed [] = refl
  keys_listed (n ∷ l) = grind (arith, keys_listed l, is_object_seen)

  module _ (tree : IsTree (world_of t)) where
    abbrev size : ℕ
    size = numbers_to (world_of t).top

    held : (q : ObjNo) → cond (is_among q (objects_below size)) (get t.objects q) None ≡ get t.objects q
    held q = by (get t.objects q) refl
      where
        within : (row : ObjRow) → get t.objects q ≡ Some row → is_among q (objects_below size) ≡ true
        within row e =
            let range = tree.numbers q (is_object_seen (look_ups t) q ∙ ap is_some e) in
            let n = assigned q.0 (world_of t).top range.0 range.1 in
            numbered size n.0 q n.2 n.1

        none : (b : Bool) → ◌≡◌ {A = Option ObjRow} (cond b None None) None
        none b = grind arith

        by : (o : Option ObjRow) → get t.objects q ≡ o → cond (is_among q (objects_below size)) o None ≡ o
        by None e = none (is_among q (objects_below size))
        by (Some row) e = ap (λ b. cond b (Some row) None) (within row e)

    all_entries : entries_below size ≡ entries t.objects
    all_entries = same_entries object_cmp object_total object_exact (entries_below size) (entries t.objects) (sorted_below size) (entries_sorted t.objects) (λ q. found_below size q ∙ held q ∙ get-entries t.objects q)

    -- the objects are the keys
    pub objects_listed : objects_of (world_of t) ≡ map (λ e. e.0) (entries t.objects)
    objects_listed = sym (keys_listed (numbers_below size)) ∙ ap (map (λ e. e.0)) all_entries

    -- those whose number passes
    pub objects_passing : (test : ObjNo → Bool) → filter test (objects_of (world_of t)) ≡ map (λ e. e.0) (filter (λ e. test e.0) (entries t.objects))
    objects_passing test = ap (filter test) objects_listed ∙ filter_map-read (λ e. e.0) test (entries t.objects)

    -- those whose row passes
    pub rows_passing : (test : ObjRow → Bool) → filter (row_passes test (world_of t)) (objects_of (world_of t)) ≡ map (λ e. e.0) (filter (λ e. test e.1) (entries t.objects))
    rows_passing test =
        objects_passing (row_passes test (world_of t))
        ∙ ap (map (λ e. e.0)) (filter_alike (λ e. row_passes test (world_of t) e.0) (λ e. test e.1) (entries t.objects)
        (all_weaker (λ e. find object_cmp e.0 (entries t.objects) ≡ Some e.1) (λ e. row_passes test (world_of t) e.0 ≡ test e.1) (λ e h. passes_seen test (look_ups t) e.0 e.1 (sym (get-entries t.objects e.0 ∙ h))) (entries t.objects)
        (own_entries object_cmp object_total (entries t.objects) (entries_sorted t.objects))))
