-- The walk over the verbs of an object gives them by ascending number.
use Rattle.moo_verbs.{proofs.Words.{◌≡◌, ◌≢◌, ℕ, zero, suc, ◌<◌, ◌≤◌, Bool, true, false, cond, T, ◌&&◌, Option, None, Some, List, [], ◌∷◌, ◌++◌, Less, Equal, refl, sym, ap, ◌∙◌, subst, inl, inr, append-nil, arith, is_some, unwrap_or, nat_lt, option_map, cons_option, list_all, get, find, entries, get-entries, entries_sorted, is_sorted, cases_eq, cases_lt, false≢true, lt-ltb, le-ltb, ObjNo, VerbId, VerbRow, Maps, verb_cmp, verbs_of, verbs_of_left, IsSound, look_ups, world_of, world_shown, object_shown, verb_id}, proofs.Numbering.{below, made_below, step}}
use Rattle.std.{specs.Cmp.{tied_itself, nat_cmp_is}, specs.Ordering.{eq_by_cmp, is_lt, int_eq, ordering_then, nat_cmp}, specs.FinMap.Entries.{below_all, same_entries, is_sorted-where_key, find-where_key, find-append}, proofs.lemmas.Bool.Decides.{Decides-int_eq}}
use Rattle.moo_rows.{specs.declared.row.ObjRow.{ObjRow}, specs.Exact.{verb_exact}, proofs.Orders.{object_total, verb_total}, proofs.Walking.{first_of, second_of}, proofs.OfObject.{verbs_of_left-all}}
use Rattle.moo_world.{specs.World.{WorldObject, directory_of as verbs_in}, proofs.Shown.MapLaws.{key-Decides}}

abbrev pub Entry : Type 0
Entry = (ObjNo × VerbId) × VerbRow

-- ---- a key put last keeps the order

both : (a b : Bool) → T a → T b → T (a && b)
both a b p q = grind arith

below_last : (k : ObjNo × VerbId) (l : List Entry) (e : Entry) → T (below_all verb_cmp k l) → T (is_lt (verb_cmp k e.0)) → T (below_all verb_cmp k (l ++ e ∷ []))
below_last k [] e h p = both _ _ p tt
below_last k (f ∷ l) e h p = both _ _ (first_of _ _ h) (below_last k l e (second_of _ _ h) p)

sorted_last : (l : List Entry) (e : Entry) → T (is_sorted verb_cmp l) → T (list_all (λ f. is_lt (verb_cmp f.0 e.0)) l) → T (is_sorted verb_cmp (l ++ e ∷ []))
sorted_last [] e h p = tt
sorted_last (f ∷ l) e h p = both _ _ (below_last f.0 l e (first_of _ _ h) (first_of _ _ p)) (sorted_last l e (second_of _ _ h) (second_of _ _ p))

all_last : (test : Entry → Bool) (l : List Entry) (e : Entry) → T (list_all test l) → T (test e) → T (list_all test (l ++ e ∷ []))
all_last test [] e h p = both _ _ p tt
all_last test (f ∷ l) e h p = both _ _ (first_of _ _ h) (all_last test l e (second_of _ _ h) p)

module _ (m : Maps) (x : ObjNo) where
  abbrev pub row_at : ℕ → Option VerbRow
  row_at j = get m.verbs (x, verb_id j)

  abbrev pub made : ℕ → VerbRow → Entry
  made j v = ((x, verb_id j), v)

  -- the verbs of x whose numbers lie below a bound, by number
  abbrev pub by_number : ℕ → List Entry
  by_number n = made_below made row_at n

  next : (n : ℕ) → by_number (suc n) ≡ by_number n ++ cons_option (option_map (made n) (row_at n)) []
  next n = step (λ j. option_map (made j) (row_at j)) n

  lower : (j k : ℕ) → j < k → verb_cmp (x, verb_id j) (x, verb_id k) ≡ Less
  lower j k l = ap (λ o. ordering_then o (nat_cmp j k)) (tied_itself object_total x) ∙ sym (nat_cmp_is j k Less l)

  all_lower : (n k : ℕ) → n ≤ k → T (list_all (λ e. is_lt (verb_cmp e.0 (x, verb_id k))) (by_number n))
  all_lower zero k l = tt
  all_lower (suc n) k l = grind (arith, all_lower n k, next, append-nil, all_last, lower)

  sorted : (n : ℕ) → T (is_sorted verb_cmp (by_number n))
  sorted zero = tt
  sorted (suc n) = subst (λ es. T (is_sorted verb_cmp es)) (sym (next n)) (by (row_at n) (sorted n))
    where
      by : (o : Option VerbRow) → T (is_sorted verb_cmp (by_number n)) → T (is_sorted verb_cmp (by_number n ++ cons_option (option_map (made n) o) []))
      by None h = subst (λ es. T (is_sorted verb_cmp es)) (sym (append-nil (by_number n))) h
      by (Some v) h = sorted_last (by_number n) (made n v) h (all_lower n n (omega arith))

  -- ---- what is found in it

  tied : (j k : ℕ) → eq_by_cmp verb_cmp (x, verb_id j) (x, verb_id k) ≡ true → j ≡ k
  tied j k e = ap (λ (key : ObjNo × VerbId). key.1.0) ((key-Decides verb_cmp verb_total verb_exact (x, verb_id j) (x, verb_id k)).0 e)

  ties : (j k : ℕ) → j ≡ k → eq_by_cmp verb_cmp (x, verb_id j) (x, verb_id k) ≡ true
  ties j k e = (key-Decides verb_cmp verb_total verb_exact (x, verb_id j) (x, verb_id k)).1 (λ i. (x, verb_id (e i)))

  found : (j n : ℕ) → find verb_cmp (x, verb_id j) (by_number n) ≡ cond (nat_lt j n) (row_at j) None
  found j zero = sym (ap (λ b. cond b (row_at j) None) (le-ltb j zero (omega arith)))
  found j (suc n) = ap (find verb_cmp (x, verb_id j)) (next n) ∙ by (row_at n) refl (found j n) (found n n)
    where
      higher : j ≢ n → cond (nat_lt j n) (row_at j) None ≡ cond (nat_lt j (suc n)) (row_at j) None
      higher ne = elim (cases_lt j n) [
        | inl l ↦ ap (λ b. cond b (row_at j) None) (lt-ltb j n l ∙ sym (lt-ltb j (suc n) (omega arith)))
        | inr l ↦ ap (λ b. cond b (row_at j) None) (le-ltb j n l ∙ sym (le-ltb j (suc n) (omega arith)))
      ]

      here : j ≡ n → cond (nat_lt j (suc n)) (row_at j) None ≡ row_at n
      here e = ap (λ b. cond b (row_at j) None) (lt-ltb j (suc n) (omega arith)) ∙ ap row_at e

      by : (o : Option VerbRow) → row_at n ≡ o → find verb_cmp (x, verb_id j) (by_number n) ≡ cond (nat_lt j n) (row_at j) None
          → find verb_cmp (x, verb_id n) (by_number n) ≡ cond (nat_lt n n) (row_at n) None
          → find verb_cmp (x, verb_id j) (by_number n ++ cons_option (option_map (made n) o) []) ≡ cond (nat_lt j (suc n)) (row_at j) None
      by None g f own =
          ap (find verb_cmp (x, verb_id j)) (append-nil (by_number n)) ∙ f
          ∙ elim (cases_eq j n) [
            | inl e ↦ ap (λ b. cond b (row_at j) None) (le-ltb j n (omega arith)) ∙ sym (here e ∙ g)
            | inr ne ↦ higher ne
          ]
      by (Some v) g f own =
          find-append verb_cmp verb_total (by_number n) (x, verb_id n) v (x, verb_id j) (own ∙ ap (λ b. cond b (row_at n) None) (le-ltb n n (omega arith)))
          ∙ elim (cases_eq j n) [
            | inl e ↦ ap (λ b. cond b (Some v) (find verb_cmp (x, verb_id j) (by_number n))) (ties j n e) ∙ sym (here e ∙ g)
            | inr ne ↦ ap (λ b. cond b (Some v) (find verb_cmp (x, verb_id j) (by_number n))) (apart ne (eq_by_cmp verb_cmp (x, verb_id j) (x, verb_id n)) refl) ∙ f ∙ higher ne
          ]
        where
          apart : j ≢ n → (b : Bool) → eq_by_cmp verb_cmp (x, verb_id j) (x, verb_id n) ≡ b → b ≡ false
          apart ne true e = absurd (ne (tied j n e))
          apart ne false e = refl

  -- of another object nothing is found
  strange : (q : ObjNo × VerbId) (n : ℕ) → int_eq q.0.0 x.0 ≡ false → find verb_cmp q (by_number n) ≡ None
  strange q zero h = refl
  strange q (suc n) h = ap (find verb_cmp q) (next n) ∙ by (row_at n) (strange q n h) (found n n)
    where
      apart : (b : Bool) → eq_by_cmp verb_cmp q (x, verb_id n) ≡ b → b ≡ false
      apart false e = refl
      apart true e =
          let same : q ≡ (x, verb_id n) = (key-Decides verb_cmp verb_total verb_exact q (x, verb_id n)).0 e in
          sym ((Decides-int_eq q.0.0 x.0).1 (ap (λ (key : ObjNo × VerbId). key.0.0) same)) ∙ h

      by : (o : Option VerbRow) → find verb_cmp q (by_number n) ≡ None → find verb_cmp (x, verb_id n) (by_number n) ≡ cond (nat_lt n n) (row_at n) None → find verb_cmp q (by_number n ++ cons_option (option_map (made n) o) []) ≡ None
      by None f own = ap (find verb_cmp q) (append-nil (by_number n)) ∙ f
      by (Some v) f own =
          find-append verb_cmp verb_total (by_number n) (x, verb_id n) v q (own ∙ ap (λ b. cond b (row_at n) None) (le-ltb n n (omega arith)))
          ∙ ap (λ b. cond b (Some v) (find verb_cmp q (by_number n))) (apart (eq_by_cmp verb_cmp q (x, verb_id n)) refl) ∙ f

  module _ (sound : IsSound m) where
    pub low : (id : VerbId) → is_some (get m.verbs (x, id)) ≡ true → (0 < id.0) × (id.0 < m.head.next_verb)
    low id e = let v = sound.verbs x id.0 e in (v.1, v.2)

    pub past : (id : VerbId) → m.head.next_verb ≤ id.0 → get m.verbs (x, id) ≡ None
    past id l = by (get m.verbs (x, id)) refl
      where
        by : (o : Option VerbRow) → get m.verbs (x, id) ≡ o → o ≡ None
        by None e = refl
        by (Some v) e = let k = low id (ap is_some e) in absurd (omega (arith, k.1))

    positive : (id : VerbId) → get m.verbs (x, id) ≢ None → 0 < id.0
    positive id held = by (get m.verbs (x, id)) refl
      where
        by : (o : Option VerbRow) → get m.verbs (x, id) ≡ o → 0 < id.0
        by None e = absurd (held e)
        by (Some v) e = (low id (ap is_some e)).0

    -- the walk gives them all
    pub walked : verbs_of_left x (record { 0 = 0 }) m ≡ by_number m.head.next_verb
    walked =
        verbs_of_left-all x m positive
        ∙ same_entries verb_cmp verb_total verb_exact (verbs_of x m) (by_number m.head.next_verb) (is_sorted-where_key verb_cmp (λ k. int_eq k.0.0 x.0) (entries m.verbs) (entries_sorted m.verbs)) (sorted m.head.next_verb) same
      where
        alike : (q k : ObjNo × VerbId) → verb_cmp q k ≡ Equal → int_eq k.0.0 x.0 ≡ int_eq q.0.0 x.0
        alike q k e = ap (λ (key : ObjNo × VerbId). int_eq key.0.0 x.0) (sym (verb_exact q k e))

        own : (q : ObjNo × VerbId) → q.0 ≡ x → find verb_cmp q (by_number m.head.next_verb) ≡ get m.verbs q
        own q e =
            let key : q ≡ (x, q.1) = λ i. (e i, q.1) in
            ap (λ k. find verb_cmp k (by_number m.head.next_verb)) key ∙ found q.1.0 m.head.next_verb
            ∙ elim (cases_lt q.1.0 m.head.next_verb) [
              | inl l ↦ ap (λ b. cond b (row_at q.1.0) None) (lt-ltb q.1.0 m.head.next_verb l)
              | inr l ↦ ap (λ b. cond b (row_at q.1.0) None) (le-ltb q.1.0 m.head.next_verb l) ∙ sym (past q.1 l)
            ] ∙ ap (get m.verbs) (sym key)

        same : (q : ObjNo × VerbId) → find verb_cmp q (verbs_of x m) ≡ find verb_cmp q (by_number m.head.next_verb)
        same q =
            find-where_key verb_cmp (λ k. int_eq k.0.0 x.0) q (alike q) (entries m.verbs) ∙ ap (λ o. cond (int_eq q.0.0 x.0) o None) (sym (get-entries m.verbs q))
            ∙ by (int_eq q.0.0 x.0) refl
          where
            by : (b : Bool) → int_eq q.0.0 x.0 ≡ b → cond b (get m.verbs q) None ≡ find verb_cmp q (by_number m.head.next_verb)
            by true e = let n = (Decides-int_eq q.0.0 x.0).0 e in sym (own q (λ i. record { 0 = n i }))
            by false e = sym (strange q m.head.next_verb e)

    -- and so does the world that the rows show
    pub verbs_shown : verbs_in (world_of m) x ≡ below row_at m.head.next_verb
    unfolding world_shown
    verbs_shown = by (get m.objects x) refl
      where
        empty : get m.objects x ≡ None → (n : ℕ) → below row_at n ≡ []
        empty none zero = refl
        empty none (suc n) = step row_at n ∙ (λ i. empty none n i ++ cons_option (absent (row_at n) refl i) [])
          where
            absent : (o : Option VerbRow) → row_at n ≡ o → row_at n ≡ None
            absent None e = e
            absent (Some v) e = absurd (false≢true (ap is_some (sym none) ∙ (sound.verbs x n (ap is_some e)).0))

        by : (o : Option ObjRow) → get m.objects x ≡ o → unwrap_or (option_map (λ (r : WorldObject). r.verbs) (option_map (object_shown (look_ups m) x) o)) [] ≡ below row_at m.head.next_verb
        by None e = sym (empty e m.head.next_verb)
        by (Some row) e = refl
