-- The laws of the nearest common ancestor, on lists of objects.
use Rattle.moo_world.{proofs.Words.{arith, ◌≡◌, Bool, true, false, List, [], ◌∷◌, ◌++◌, refl, sym, ◌∙◌, subst, ◌⊎◌, inl, inr, Option, Some, None, append-nil, find, false≢true, or_parts, or_right, or_cases, filter-append, none-some, ObjNo, nothing, same_object, is_among, same_object-Decides, Climbs, except}, proofs.Ancestry.Chains.{front_of, Climbs-once}, proofs.Inheritance.Owed.{is_among-append}}

pub same_object-self : (x : ObjNo) → same_object x x ≡ true
same_object-self x = (same_object-Decides x x).1 refl

-- ---- what stands in a chain stands there once

module _ (link : ObjNo → Option ObjNo) (none : link nothing ≡ None) where
  pub apart_in_chain : (l m : List ObjNo) (z d : ObjNo) → Climbs link z (l ++ m) → is_among d l ≡ true → is_among d m ≡ false
  apart_in_chain [] m z d p h = absurd (false≢true h)
  apart_in_chain (y ∷ l) m z d p h = by (or_cases _ _ h) (apart_in_chain l m p.1 d p.3)
    where
      here : same_object d y ≡ true → is_among d m ≡ false
      here k =
          let once : is_among d (l ++ m) ≡ false = subst (λ e. is_among e (l ++ m) ≡ false) (p.0 ∙ sym ((same_object-Decides d y).0 k)) (Climbs-once link none (l ++ m) z y p) in
          (or_parts (is_among d l) (is_among d m) (sym (is_among-append d l m) ∙ once)).1

      by : (same_object d y ≡ true) ⊎ (is_among d l ≡ true) → (is_among d l ≡ true → is_among d m ≡ false) → is_among d m ≡ false
      by (inl k) r = here k
      by (inr k) r = r k

-- ---- the rest of a list

except_apart : (l others : List ObjNo) → ((d : ObjNo) → is_among d l ≡ true → is_among d others ≡ false) → except l others ≡ l
except_apart [] others h = refl
except_apart (y ∷ l) others h = grind (arith, except_apart l others, same_object-self, or_right)

except_within : (l others : List ObjNo) → ((d : ObjNo) → is_among d l ≡ true → is_among d others ≡ true) → except l others ≡ []
except_within [] others h = refl
except_within (y ∷ l) others h = grind (arith, except_within l others, same_object-self, or_right)

-- what a chain has in front of its end is what it has except that end
pub except_end : (l m : List ObjNo) → ((d : ObjNo) → is_among d l ≡ true → is_among d m ≡ false) → except (l ++ m) m ≡ l
except_end l m h = grind (arith, filter-append, except_apart, except_within, append-nil)

-- ---- the first object that passes a test

module _ (t : ObjNo → Bool) where
  -- nothing in front of it passes
  pub front_fails : (q : List ObjNo) (c d : ObjNo) → find t q ≡ Some c → is_among d (front_of c q) ≡ true → t d ≡ false
  front_fails [] c d e h = absurd (none-some c e)
  front_fails (y ∷ q) c d e h = grind (arith, front_fails q c d, front_of, or_cases, same_object-Decides)

  pub all_fail : (q : List ObjNo) (d : ObjNo) → find t q ≡ None → is_among d q ≡ true → t d ≡ false
  all_fail [] d e h = absurd (false≢true h)
  all_fail (y ∷ q) d e h = grind (arith, all_fail q d, or_cases, same_object-Decides)

pub front_within : (l : List ObjNo) (c d : ObjNo) → is_among d (front_of c l) ≡ true → is_among d l ≡ true
front_within [] c d h = absurd (false≢true h)
front_within (y ∷ l) c d h = grind (arith, front_within l c d, front_of)
