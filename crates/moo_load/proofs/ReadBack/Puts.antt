-- Rows that are put into a map one after another.
use Rattle.moo_load.{proofs.Words.{◌≡◌, true, false, cond, Option, Some, None, List, [], ◌∷◌, refl, sym, ap, ◌∙◌, ◌⊎◌, inl, inr, AllByRecursion, IsTotalOrder, FinMap, get, insert, empty, get-insert, get-empty, eq_by_cmp, Ordering, false≢true, CmpEqualImpliesEq, key-Decides, subst, at_number, ℕ}, proofs.ReadBack.Lists.{all_counted, counted, of_all, stands_counted, Stands}}

abbrev pub puts : {K X : Type 0} {cmp : K → K → Ordering} → List (K × X) → FinMap cmp X → FinMap cmp X
puts [] m = m
puts (e ∷ es) m = puts es (insert m e.0 e.1)

module _ {K X : Type 0} {cmp : K → K → Ordering} (total : IsTotalOrder cmp) (exact : CmpEqualImpliesEq cmp) (f : K → Option X) (k : K) where
  abbrev Others : List (K × X) → Type 0
  Others es = AllByRecursion (λ e. e.0 ≡ k → ⊥) es

  -- if each row is what f says of its key, a look-up gives that; or it gives what it gave before, and no row has the key
  got : (es : List (K × X)) (m : FinMap cmp X) → AllByRecursion (λ e. f e.0 ≡ Some e.1) es → (get (puts es m) k ≡ f k) ⊎ ((get (puts es m) k ≡ get m k) × Others es)
  got [] m a = inr (refl, tt)
  got (e ∷ es) m a = elim (got es (insert m e.0 e.1) a.1) [
    | inl h ↦ inl h
    | inr h ↦ elim (eq_by_cmp cmp k e.0) as (λ b. eq_by_cmp cmp k e.0 ≡ b → get (puts es (insert m e.0 e.1)) k ≡ cond b (Some e.1) (get m k) → (get (puts es (insert m e.0 e.1)) k ≡ f k) ⊎ ((get (puts es (insert m e.0 e.1)) k ≡ get m k) × Others (e ∷ es))) [
      | true ↦ λ g j. inl (j ∙ sym a.0 ∙ sym (ap f ((key-Decides cmp total exact k e.0).0 g)))
      | false ↦ λ g j. inr (j, ((λ same. false≢true (sym g ∙ (key-Decides cmp total exact k e.0).1 (sym same))), h.1))
    ] refl (h.0 ∙ get-insert total m e.0 e.1 k)
  ]

  -- put into an empty map, they are what f says, if each row of which it says something is one of theirs
  pub exactly : (es : List (K × X)) → AllByRecursion (λ e. f e.0 ≡ Some e.1) es → ((x : X) → f k ≡ Some x → Stands (k, x) es) → get (puts {cmp = cmp} es empty) k ≡ f k
  exactly es a all = elim (got es empty a) [
    | inl h ↦ h
    | inr h ↦ elim (f k) as (λ o. f k ≡ o → get (puts {cmp = cmp} es empty) k ≡ f k) [
      | None ↦ λ g. h.0 ∙ get-empty cmp k ∙ sym g
      | Some x ↦ λ g. absurd (of_all (λ e. e.0 ≡ k → ⊥) es (k, x) h.1 (all x g) refl)
    ] refl
  ]

  -- so with rows by numbers
  pub by_number : {A : Type 0} (entry : ℕ → A → K × X) (l : List A) → ((i : ℕ) (a : A) → at_number l i ≡ Some a → f (entry i a).0 ≡ Some (entry i a).1) → ((x : X) → f k ≡ Some x → (i : ℕ) × (a : A) × (at_number l i ≡ Some a) × (entry i a ≡ (k, x))) → get (puts {cmp = cmp} (counted entry 1 l) empty) k ≡ f k
  by_number entry l own find =
      exactly (counted entry 1 l) (all_counted (λ e. f e.0 ≡ Some e.1) entry l [] l 1 refl refl own) (λ x e. let r = find x e in subst (λ y. Stands y (counted entry 1 l)) r.3 (stands_counted entry l r.0 r.1 r.2))
