-- The names that an object defines are those of the properties' entries that have it as definer.
use Rattle.moo_props.{proofs.Words.{◌≡◌, ◌≢◌, ℕ, zero, suc, ◌≤◌, true, cond, T, Option, None, Some, List, [], ◌∷◌, ◌++◌, map, Less, refl, sym, ap, ◌∙◌, subst, arith, append-nil, option_map, nat_cmp_is, filter, filter_map, cons_option, AllByRecursion, eq_by_cmp, get, get-entries, is_sorted, entries, entries_sorted, filter_map-append, ObjNo, PropId, PropRow, Maps, prop_cmp, prop_exact, prop_total, Name, same_object, property_names_of, IsSound, look_ups, world_of, world_shown, numbers_below, name_on, prop_id, key-Decides, cases_eq, lt-ltb, le-ltb}, proofs.Numbers.{no_names}}
use Rattle.std.{specs.Prelude.{nat_lt}, specs.FinMap.{find}, specs.FinMap.Entries.{same_entries, find-append}}
use Rattle.moo_world.proofs.Shown.EntriesInOrder.{all_then, sorted_then, past_each}
use Rattle.std.proofs.lemmas.Bool.Decides.{nat_tests}

-- the names of those of these entries that x defines
abbrev pub names_among : ObjNo → List (PropId × PropRow) → List Name
names_among x es = map (λ e. e.1.name) (filter (λ e. same_object e.1.definer x) es)

module _ (t : Maps) where
  abbrev row_at : ℕ → Option PropRow
  row_at j = get t.props (prop_id j)

  abbrev entry_at : ℕ → Option (PropId × PropRow)
  entry_at j = option_map (λ p. (prop_id j, p)) (row_at j)

  -- the entries whose numbers lie below a bound, by number
  abbrev by_number : ℕ → List (PropId × PropRow)
  by_number n = filter_map entry_at (numbers_below n)

  next : (n : ℕ) → by_number (suc n) ≡ by_number n ++ cons_option (entry_at n) []
  next n = filter_map-append entry_at (numbers_below n) (n ∷ [])

  all_lower : (n k : ℕ) → n ≤ k → AllByRecursion (λ e. prop_cmp e.0 (prop_id k) ≡ Less) (by_number n)
  all_lower zero k l = tt
  all_lower (suc n) k l = subst (AllByRecursion (λ e. prop_cmp e.0 (prop_id k) ≡ Less)) (sym (next n)) (by (row_at n) (all_lower n k (omega arith)))
    where
      by : (o : Option PropRow) → AllByRecursion (λ e. prop_cmp e.0 (prop_id k) ≡ Less) (by_number n) → AllByRecursion (λ e. prop_cmp e.0 (prop_id k) ≡ Less) (by_number n ++ cons_option (option_map (λ p. (prop_id n, p)) o) [])
      by o h1 = grind (arith, append-nil, all_then, nat_cmp_is)

  sorted : (n : ℕ) → T (is_sorted prop_cmp (by_number n))
  sorted zero = tt
  sorted (suc n) = subst (λ es. T (is_sorted prop_cmp es)) (sym (next n)) (by (row_at n) (sorted n))
    where
      by : (o : Option PropRow) → T (is_sorted prop_cmp (by_number n)) → T (is_sorted prop_cmp (by_number n ++ cons_option (option_map (λ p. (prop_id n, p)) o) []))
      by o h1 = grind (arith, append-nil, sorted_then, all_lower)

  ties : (j k : ℕ) → (eq_by_cmp prop_cmp (prop_id j) (prop_id k) ≡ true → j ≡ k) × (j ≡ k → eq_by_cmp prop_cmp (prop_id j) (prop_id k) ≡ true)
  ties j k = grind (arith, key-Decides, prop_total)

  -- what a number has is found among them where it is below
  found : (j n : ℕ) → find prop_cmp (prop_id j) (by_number n) ≡ cond (nat_lt j n) (row_at j) None
  found j zero = sym (ap (λ b. cond b (row_at j) None) (le-ltb j zero (omega arith)))
  found j (suc n) = grind (arith, next, lt-ltb, append-nil, cases_eq, find-append, prop_total, past_each, all_lower, ties, found j n)

  named : (x : ObjNo) (l : List ℕ) → names_among x (filter_map entry_at l) ≡ filter_map (name_on (look_ups t) x) l
  named x [] = refl
  named x (n ∷ l) = grind (arith, named x l)

  module _ (sound : IsSound t) where
    all_entries : by_number t.head.next_prop ≡ entries t.props
    all_entries = same_entries prop_cmp prop_total prop_exact (by_number t.head.next_prop) (entries t.props) (sorted t.head.next_prop) (entries_sorted t.props) (λ q. found q.0 t.head.next_prop ∙ held q ∙ get-entries t.props q)
      where
        held : (q : PropId) → cond (nat_lt q.0 t.head.next_prop) (get t.props q) None ≡ get t.props q
        held q = grind (arith, nat_tests, sound.props_below q.0)

    -- the names in the order of definition are those of the entries in the order of their numbers
    pub names_listed : (x : ObjNo) → names_among x (entries t.props) ≡ property_names_of (world_of t) x
    unfolding world_shown
    names_listed x = ap (names_among x) (sym all_entries) ∙ named x (numbers_below t.head.next_prop) ∙ grind (arith, no_names (look_ups t) sound x)
