-- Lists of properties, and of other things.
use Rattle.moo_world.proofs.Words.{arith, ◌≡◌, Bool, true, false, ◌||◌, Option, Some, List, [], ◌∷◌, ◌++◌, map, refl, ap, is_some, list_any, IsDistinct, AllByRecursion, Property, same_text, folded, NamesDiffer}

pub some_of : {A : Type 0} (o : Option A) → is_some o ≡ true → (a : A) × (o ≡ Some a)
some_of o e = grind arith

pub any_map : {A B : Type 0} (test : B → Bool) (f : A → B) (l : List A) → list_any test (map f l) ≡ list_any (λ a. test (f a)) l
any_map test f [] = refl
any_map test f (a ∷ l) = ap (λ b. test (f a) || b) (any_map test f l)

pub distinct_map : {A B : Type 0} (differ : B → B → Bool) (f : A → B) (l : List A) → IsDistinct differ (map f l) → IsDistinct (λ a b. differ (f a) (f b)) l
unfolding IsDistinct
distinct_map differ f [] d = tt
distinct_map differ f (a ∷ l) d = (all l d.0, distinct_map differ f l d.1)
  where
    all : (l : List _) → AllByRecursion (λ y. differ (f a) y ≡ false) (map f l) → AllByRecursion (λ b. differ (f a) (f b) ≡ false) l
    all [] h = tt
    all (b ∷ l) h = (h.0, all l h.1)

pub pairs_left : (l m : List Property) → NamesDiffer (l ++ m) → NamesDiffer l
unfolding IsDistinct
pairs_left [] m d = tt
pairs_left (p ∷ l) m d = (first l d.0, pairs_left l m d.1)
  where
    first : (l : List Property) → AllByRecursion (λ y. same_text (folded p.1) (folded y.1) ≡ false) (l ++ m) → AllByRecursion (λ y. same_text (folded p.1) (folded y.1) ≡ false) l
    first [] a = tt
    first (y ∷ l) a = (a.0, first l a.1)
