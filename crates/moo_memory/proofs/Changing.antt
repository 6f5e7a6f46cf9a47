-- The changes of a map are exact, and applied to it they give the new one.
use Rattle.moo_memory.{proofs.Words.{arith, ◌≡◌, Bool, true, false, cond, T, ◌&&◌, Option, None, Some, List, [], ◌∷◌, ◌++◌, append_assoc, append-nil, Less, Equal, Ordering, unwrap_or, refl, sym, ap, ◌∙◌, subst, eq_by_cmp, is_lt, is_eq, FinMap, find, get, get-from_entries, same_map, is_sorted, contents, changed, row_over, IsChanges, changed_each}, specs.Without.{Without, no_more, kept, left_out}, proofs.Overlays.{get-changed}}
use Rattle.moo_rows.proofs.Walking.{first_of, second_of, less_of}
use Rattle.std.proofs.lemmas.Option.{none-some, same_Some}
use Rattle.std.{specs.Cmp.{IsTotalOrder}, specs.BTreeMap.{BTreeMap, IsOrdered}, specs.FinMap.Entries.{below_all, same_entries}, specs.List.{AllByRecursion}, specs.List.Sorted.{IsStrictlySortedBy}, specs.Map.{keys_of}, proofs.lemmas.Map.Lookups.{CmpEqualImpliesEq}}

pub both : (a b : Bool) → T a → T b → T (a && b)
both true b p q = q
both false b p q = p

equal_of : (o : Ordering) → is_eq o ≡ true → o ≡ Equal
equal_of o e = grind arith

-- ---- ordered maps have their entries in order

module _ {K X : Type 0} (cmp : K → K → Ordering) where
  below : (k : K) (es : List (K × X)) → AllByRecursion (λ y. cmp k y ≡ Less) (keys_of es) → T (below_all cmp k es)
  below k [] h = tt
  below k (e ∷ es) h = both _ _ (subst (λ o. T (is_lt o)) (sym h.0) tt) (below k es h.1)

  pub sorted_entries : (es : List (K × X)) → IsStrictlySortedBy cmp (keys_of es) → T (is_sorted cmp es)
  unfolding IsStrictlySortedBy
  sorted_entries [] h = tt
  sorted_entries (e ∷ es) h = both _ _ (below e.0 es h.0) (sorted_entries es h.1)

-- ---- going over a list and leaving some of it out

-- with what the list that is left leaves, those so far are what all leaves
abbrev pub LeavesSoFar : {A : Type 0} → (A → Type 0) → List A → List A → List A → Type 0
LeavesSoFar {A = A} P all so_far left = (rest : List A) → Without P left rest → Without P all (so_far ++ rest)

module _ {A : Type 0} (P : A → Type 0) (all so_far left : List A) where
  pub one-kept : (x : A) (next later : List A) → left ≡ x ∷ later → next ≡ so_far ++ x ∷ [] → ¬ (P x) → LeavesSoFar P all so_far left → LeavesSoFar P all next later
  one-kept x next later e f p h = λ rest w.
      subst (Without P all) (sym (append_assoc so_far (x ∷ []) rest) ∙ ap (λ es. es ++ rest) (sym f)) (h (x ∷ rest) (subst (λ es. Without P es (x ∷ rest)) (sym e) (kept p w)))

  pub one-left_out : (x : A) (later : List A) → left ≡ x ∷ later → P x → LeavesSoFar P all so_far left → LeavesSoFar P all so_far later
  one-left_out x later e p h = λ rest w. h rest (subst (λ es. Without P es rest) (sym e) (left_out p w))

  pub all-seen : left ≡ [] → LeavesSoFar P all so_far left → Without P all so_far
  all-seen e h = subst (Without P all) (append-nil so_far) (h [] (subst (λ es. Without P es []) (sym e) no_more))

-- ---- a list in order, without some of its entries

module _ {K X : Type 0} (cmp : K → K → Ordering) (P : K × X → Type 0) where
  without-below : (k : K) {es rest : List (K × X)} → Without P es rest → T (below_all cmp k es) → T (below_all cmp k rest)
  without-below k no_more h = tt
  without-below k (kept p more) h = both _ _ (first_of _ _ h) (without-below k more (second_of _ _ h))
  without-below k (left_out p more) h = without-below k more (second_of _ _ h)

  pub without-sorted : {es rest : List (K × X)} → Without P es rest → T (is_sorted cmp es) → T (is_sorted cmp rest)
  without-sorted no_more h = tt
  without-sorted (kept p more) h = both _ _ (without-below _ more (first_of _ _ h)) (without-sorted more (second_of _ _ h))
  without-sorted (left_out p more) h = without-sorted more (second_of _ _ h)

  not_among : (k : K) (es : List (K × X)) → T (below_all cmp k es) → find cmp k es ≡ None
  not_among k [] h = refl
  not_among k (e ∷ es) h = ap (λ o. cond (is_eq o) (Some e.1) (find cmp k es)) (less_of _ (first_of _ _ h)) ∙ not_among k es (second_of _ _ h)

  module _ (exact : CmpEqualImpliesEq cmp) where
    -- what is found in the rest is found in the whole, and hasn't the property
    pub without-found : {es rest : List (K × X)} → Without P es rest → T (is_sorted cmp es) → (q : K) (x : X) → find cmp q rest ≡ Some x → (find cmp q es ≡ Some x) × (¬ (P (q, x)))
    without-found no_more h q x f = absurd (none-some x f)
    without-found (kept {x = e} {xs = es} {ys = rest} p more) h q x f =
        elim (eq_by_cmp cmp q e.0) as (λ b. eq_by_cmp cmp q e.0 ≡ b → cond b (Some e.1) (find cmp q rest) ≡ Some x → (cond b (Some e.1) (find cmp q es) ≡ Some x) × (¬ (P (q, x)))) [
          | true ↦ λ t f.
              let key = exact q e.0 (equal_of _ t) in
              let same = same_Some _ _ f in
              let entry : ◌≡◌ {A = K × X} (q, x) e = λ i. (key i, sym same i) in
              (f, λ has. p (subst P entry has))
          | false ↦ λ t f. without-found more (second_of _ _ h) q x f
        ] refl f
    without-found (left_out {x = e} {xs = es} {ys = rest} p more) h q x f =
        let later = without-found more (second_of _ _ h) q x f in
        elim (eq_by_cmp cmp q e.0) as (λ b. eq_by_cmp cmp q e.0 ≡ b → (cond b (Some e.1) (find cmp q es) ≡ Some x) × (¬ (P (q, x)))) [
          | true ↦ λ t. absurd (none-some x (sym (subst (λ k. find cmp k es ≡ None) (sym (exact q e.0 (equal_of _ t))) (not_among e.0 es (first_of _ _ h))) ∙ later.0))
          | false ↦ λ t. later
        ] refl

    -- what is found in the whole and not in the rest has the property
    pub without-missed : {es rest : List (K × X)} → Without P es rest → (q : K) (x : X) → find cmp q rest ≡ None → find cmp q es ≡ Some x → P (q, x)
    without-missed no_more q x none f = absurd (none-some x f)
    without-missed (kept {x = e} {xs = es} {ys = rest} p more) q x none f =
        elim (eq_by_cmp cmp q e.0) as (λ b. cond b (Some e.1) (find cmp q rest) ≡ None → cond b (Some e.1) (find cmp q es) ≡ Some x → P (q, x)) [
          | true ↦ λ none f. absurd (none-some e.1 (sym none))
          | false ↦ λ none f. without-missed more q x none f
        ] none f
    without-missed (left_out {x = e} {xs = es} {ys = rest} p more) q x none f =
        elim (eq_by_cmp cmp q e.0) as (λ b. eq_by_cmp cmp q e.0 ≡ b → cond b (Some e.1) (find cmp q es) ≡ Some x → P (q, x)) [
          | true ↦ λ t f.
              let key = exact q e.0 (equal_of _ t) in
              let same = same_Some _ _ f in
              let entry : ◌≡◌ {A = K × X} e (q, x) = λ i. (sym key i, same i) in
              subst P entry p
          | false ↦ λ t f. without-missed more q x none f
        ] refl f

-- ---- the changes

module _ {K X : Type 0} {cmp : K → K → Ordering} (total : IsTotalOrder cmp) (exact : CmpEqualImpliesEq cmp) where
  -- the changed rows without those that the base has are the changes
  pub without-changes : (row_at : K → Option X) (m : BTreeMap K (Option X)) (rest : List (K × Option X)) → IsOrdered cmp m
      → Without (λ e. row_at e.0 ≡ e.1) m.entries rest → IsChanges cmp row_at (row_over row_at (contents cmp m)) rest
  without-changes row_at m rest ordered w =
      let P : K × Option X → Type 0 = λ e. row_at e.0 ≡ e.1 in
      let sorted = sorted_entries cmp m.entries ordered in
      let new : (q : K) (o : Option (Option X)) → find cmp q m.entries ≡ o → row_over row_at (contents cmp m) q ≡ unwrap_or o (row_at q) =
      λ q o f. ap (λ o. unwrap_or o (row_at q)) (get-from_entries total m.entries q ∙ f) in
      record {
        ascending = without-sorted cmp P w sorted;
        listed = λ q row f. let found = without-found cmp P exact w sorted q row f in (sym (new q (Some row) found.0), λ e. found.1 (sym e));
        others = λ q none.
            elim (find cmp q m.entries) as (λ o. find cmp q m.entries ≡ o → row_at q ≡ row_over row_at (contents cmp m) q) [
              | None ↦ λ f. sym (new q None f)
              | Some row ↦ λ f. without-missed cmp P exact w q row none f ∙ sym (new q (Some row) f)
            ] refl;
      }

  get-changed_each : (es : List (K × Option X)) → T (is_sorted cmp es) → (base : FinMap cmp X) (q : K) → get (changed_each base es) q ≡ unwrap_or (find cmp q es) (get base q)
  get-changed_each [] h base q = refl
  get-changed_each (e ∷ es) h base q =
      get-changed_each es (second_of _ _ h) (changed base e.0 e.1) q
      ∙ ap (unwrap_or (find cmp q es)) (get-changed total base e.0 e.1 q)
      ∙ elim (eq_by_cmp cmp q e.0) as (λ b. eq_by_cmp cmp q e.0 ≡ b → unwrap_or (find cmp q es) (cond b e.1 (get base q)) ≡ unwrap_or (cond b (Some e.1) (find cmp q es)) (get base q)) [
        | true ↦ λ t. ap (λ o. unwrap_or o e.1) (subst (λ k. find cmp k es ≡ None) (sym (exact q e.0 (equal_of _ t))) (not_among cmp (λ _. ⊥) e.0 es (first_of _ _ h)))
        | false ↦ λ t. refl
      ] refl

  -- the changes from one map to another make the one into the other
  pub changes-applied : (base new : FinMap cmp X) (changes : List (K × Option X)) → IsChanges cmp (get base) (get new) changes → changed_each base changes ≡ new
  changes-applied base new changes h = same_map total exact _ _ (λ q.
      get-changed_each changes h.ascending base q
      ∙ elim (find cmp q changes) as (λ o. find cmp q changes ≡ o → unwrap_or o (get base q) ≡ get new q) [
        | None ↦ λ f. h.others q f
        | Some row ↦ λ f. (h.listed q row f).0
      ] refl)

  -- two maps have one list of changes
  pub changes-unique : (base new : K → Option X) (a b : List (K × Option X)) → IsChanges cmp base new a → IsChanges cmp base new b → a ≡ b
  changes-unique base new a b h k = same_entries cmp total exact a b h.ascending k.ascending (λ q.
      elim (find cmp q a) as (λ o. find cmp q a ≡ o → o ≡ find cmp q b) [
        | None ↦ λ f. elim (find cmp q b) as (λ o. find cmp q b ≡ o → None ≡ o) [
          | None ↦ λ g. refl
          | Some row ↦ λ g. let l = k.listed q row g in absurd (l.1 (l.0 ∙ sym (h.others q f)))
        ] refl
        | Some row ↦ λ f. elim (find cmp q b) as (λ o. find cmp q b ≡ o → Some row ≡ o) [
          | None ↦ λ g. let l = h.listed q row f in absurd (l.1 (l.0 ∙ sym (k.others q g)))
          | Some other ↦ λ g. ap Some ((h.listed q row f).0 ∙ sym (k.listed q other g).0)
        ] refl
      ] refl)

-- look-ups that are equal have no changes
pub no-changes : {K X : Type 0} {cmp : K → K → Ordering} (base new : K → Option X) → base ≡ new → IsChanges cmp base new []
no-changes base new e = record { ascending = tt; listed = λ key row f. absurd (none-some row f); others = λ key f i. e i key }

-- changes of nothing leave each row as it is
pub nothing-changed : {K X : Type 0} {cmp : K → K → Ordering} → IsTotalOrder cmp → (row_at : K → Option X) (m : BTreeMap K (Option X)) → m.entries ≡ [] → IsChanges cmp row_at (row_over row_at (contents cmp m)) []
nothing-changed {cmp = cmp} total row_at m e =
    record {
      ascending = tt;
      listed = λ key row f. absurd (none-some row f);
      others = λ q none. sym (ap (λ o. unwrap_or o (row_at q)) (get-from_entries total m.entries q ∙ ap (find cmp q) e));
    }
