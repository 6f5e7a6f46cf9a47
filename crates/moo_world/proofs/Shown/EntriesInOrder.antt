-- Lists of entries in the order of their keys.
use Rattle.moo_world.proofs.Words.{arith, ◌≡◌, Bool, true, cond, T, ◌&&◌, None, Some, List, [], ◌∷◌, ◌++◌, map, Ordering, Less, refl, sym, ap, ◌∙◌, subst, IsTotalOrder, tied_itself, is_eq, is_lt, ordering_reverse, filter, AllByRecursion, is_sorted, below_all, first_of, second_of, less_of, elsewhere, here}
use Rattle.std.specs.FinMap.{find}

both_of : (a b : Bool) → T a → T b → T (a && b)
both_of a b p q = grind arith

pub all_then : {A : Type 0} (P : A → Type 0) (l : List A) (x : A) → AllByRecursion P l → P x → AllByRecursion P (l ++ x ∷ [])
all_then P [] x a p = (p, tt)
all_then P (y ∷ l) x a p = (a.0, all_then P l x a.1 p)

module _ {K X : Type 0} (cmp : K → K → Ordering) where
  below_then : (x : K) (es : List (K × X)) (k : K) (v : X) → T (below_all cmp x es) → cmp x k ≡ Less → T (below_all cmp x (es ++ (k, v) ∷ []))
  below_then x [] k v b less = both_of (is_lt (cmp x k)) true (subst (λ o. T (is_lt o)) (sym less) tt) tt
  below_then x (e ∷ es) k v b less = both_of _ _ (first_of _ _ b) (below_then x es k v (second_of _ _ b) less)

  -- an entry past each other may stand at the end
  pub sorted_then : (es : List (K × X)) (k : K) (v : X) → T (is_sorted cmp es) → AllByRecursion (λ e. cmp e.0 k ≡ Less) es → T (is_sorted cmp (es ++ (k, v) ∷ []))
  sorted_then [] k v s a = tt
  sorted_then (e ∷ es) k v s a = both_of _ _ (below_then e.0 es k v (first_of _ _ s) a.0) (sorted_then es k v (second_of _ _ s) a.1)

  module _ (total : IsTotalOrder cmp) where
    -- its key is not among them
    pub past_each : (es : List (K × X)) (k : K) → AllByRecursion (λ e. cmp e.0 k ≡ Less) es → find cmp k es ≡ None
    past_each [] k a = refl
    past_each (e ∷ es) k a = elsewhere cmp k e es (ap is_eq (total.antisymm k e.0 ∙ ap ordering_reverse a.0)) ∙ past_each es k a.1

    -- each entry is what its key holds
    pub own_entries : (es : List (K × X)) → T (is_sorted cmp es) → AllByRecursion (λ e. find cmp e.0 es ≡ Some e.1) es
    own_entries [] s = tt
    own_entries (e ∷ es) s = (here cmp e.0 e es (ap is_eq (tied_itself total e.0)), weaker es (first_of _ _ s) (own_entries es (second_of _ _ s)))
      where
        weaker : (l : List (K × X)) → T (below_all cmp e.0 l) → AllByRecursion (λ k. find cmp k.0 es ≡ Some k.1) l → AllByRecursion (λ k. find cmp k.0 (e ∷ es) ≡ Some k.1) l
        weaker [] b h = tt
        weaker (k ∷ l) b h = grind (arith, weaker l, less_of, first_of, elsewhere, second_of)

-- what is read of those that pass is what passes of what is read
pub filter_map-read : {A B : Type 0} (read : A → B) (test : B → Bool) (l : List A) → filter test (map read l) ≡ map read (filter (λ a. test (read a)) l)
filter_map-read read test [] = refl
filter_map-read read test (x ∷ l) = grind (arith, filter_map-read read test l)

-- tests that answer alike on a list let the same pass
pub filter_alike : {A : Type 0} (p q : A → Bool) (l : List A) → AllByRecursion (λ a. p a ≡ q a) l → filter p l ≡ filter q l
filter_alike p q [] a = refl
filter_alike p q (x ∷ l) a = λ i. cond (a.0 i) (x ∷ filter_alike p q l a.1 i) (filter_alike p q l a.1 i)

pub all_weaker : {A : Type 0} (P Q : A → Type 0) → ((a : A) → P a → Q a) → (l : List A) → AllByRecursion P l → AllByRecursion Q l
all_weaker P Q f [] a = tt
all_weaker P Q f (x ∷ l) a = (f x a.0, all_weaker P Q f l a.1)
