-- The nearest ancestor that two objects share.
use Rattle.moo_tree.proofs.Words.{◌≡◌, ℕ, zero, suc, ◌-◌, ◌≤◌, ◌<◌, Bool, true, false, cond, List, [], ◌∷◌, ◌++◌, length, drop, Some, None, refl, sym, ap, subst, ◌∙◌, ◌⊎◌, inl, inr, arith, unwrap_or, find, int_eq, both_ways, or_right, cases_lt, ObjNo, ancestors, common, nothing, same_object, is_among, same_object-eq, same_object-Decides, World, IsTree, Chain, is_object, parent_of, chain, front_of, Climbs-unique, Climbs-among, Climbs-split, no_parent, Chain-chain, chain_of_none}
use Rattle.std.{proofs.lemmas.Bool.{false_from_ne_true}, proofs.lemmas.List.{length-append, length-drop, drop_at}}

-- ---- lists

pub drop_none : (k : ℕ) → ◌≡◌ {A = List ObjNo} (drop k []) []
drop_none k = grind arith

pub drop_tail : (k : ℕ) (l : List ObjNo) (a : ObjNo) (c : List ObjNo) → drop k l ≡ a ∷ c → drop (suc k) l ≡ c
drop_tail zero [] a c e = cc
drop_tail zero (x ∷ l) a c e = cc
drop_tail (suc k) [] a c e = cc
drop_tail (suc k) (x ∷ l) a c e = drop_tail k l a c e

pub among_drop : (d : ObjNo) (k : ℕ) (l : List ObjNo) → is_among d (drop k l) ≡ true → is_among d l ≡ true
among_drop d zero l h = h
among_drop d (suc k) [] h = h
among_drop d (suc k) (x ∷ l) h = or_right _ _ (among_drop d k l h)

none_among_none : (l : List ObjNo) → find (λ d. is_among d []) l ≡ None
none_among_none [] = refl
none_among_none (x ∷ l) = none_among_none l

pub find_here : (t : ObjNo → Bool) (x : ObjNo) (l m : List ObjNo) → m ≡ x ∷ l → t x ≡ true → find t m ≡ Some x
find_here t x l m e h = ap (find t) e ∙ ap (λ b. cond b (Some x) (find t l)) h

pub find_later : (t : ObjNo → Bool) (x : ObjNo) (l m : List ObjNo) → m ≡ x ∷ l → t x ≡ false → find t l ≡ find t m
find_later t x l m e h = sym (ap (find t) e ∙ ap (λ b. cond b (Some x) (find t l)) h)

-- ends of two lists that are cut to one length
pub cut_alike : (p q one other : List ObjNo) → one ≡ drop (length p - length q) p → other ≡ drop (length q - length p) q → length one ≡ length other
cut_alike p q one other e h = grind (arith, length-drop)

pub cut_within : (p one : List ObjNo) (n : ℕ) → one ≡ drop (length p - n) p → drop (length p - length one) p ≡ one
cut_within p one n e = grind (arith, length-drop)

pub tail_within : (p l c : List ObjNo) (x : ObjNo) → drop (length p - length l) p ≡ l → l ≡ x ∷ c → drop (length p - length c) p ≡ c
tail_within p l c x e s = grind (arith, length-drop, drop_tail)

-- ---- chains

-- what has no chain shares nothing
pub common_of_none : (w : World) (x q : ObjNo) → chain w x ≡ [] → common w x q ≡ nothing
common_of_none w x q e = ap (λ l. unwrap_or (find (λ d. is_among d (drop 1 l)) (chain w q)) nothing) e ∙ ap (λ o. unwrap_or o nothing) (none_among_none (chain w q))

module _ (w : World) (t : IsTree w) where
  -- what `chain` computes is a chain, if only that of nothing
  some_chain : (z : ObjNo) → (y : ObjNo) × Chain w y (chain w z)
  some_chain z = by (is_object w z) refl
    where
      by : (b : Bool) → is_object w z ≡ b → (y : ObjNo) × Chain w y (chain w z)
      by true e = (z, Chain-chain w t z e)
      by false e = (nothing, subst (Chain w nothing) (sym (chain_of_none w z e)) refl)

  some_ancestors : (x : ObjNo) → (y : ObjNo) × Chain w y (ancestors w x)
  some_ancestors x = by (chain w x) (some_chain x)
    where
      by : (l : List ObjNo) → (y : ObjNo) × Chain w y l → (y : ObjNo) × Chain w y (drop 1 l)
      by [] c = (nothing, refl)
      by (z ∷ l) c = (c.1.1, c.1.3)

  -- an object is in no chain that is shorter than its own
  too_deep : (z : ObjNo) (l k : List ObjNo) (y : ObjNo) → Chain w z (z ∷ l) → Chain w y k → length k ≤ length l → is_among z k ≡ false
  too_deep z l k y p q h =
      false_from_ne_true (is_among z k) (λ e.
      let r = Climbs-among (parent_of w) (no_parent w t) k y z q e in
      let long : length (z ∷ l) ≡ length r.0 = ap length (Climbs-unique (parent_of w) (no_parent w t) (z ∷ l) r.0 z p r.1) in
      absurd (omega (arith, r.2)))

  find_no_deeper : (l : List ObjNo) (x : ObjNo) (k : List ObjNo) (y : ObjNo) → Chain w x l → Chain w y k → find (λ d. is_among d k) (drop (length l - length k) l) ≡ find (λ d. is_among d k) l
  find_no_deeper [] x k y p q = ap (find (λ d. is_among d k)) (drop_none (0 - length k))
  find_no_deeper (z ∷ l) x k y p q = by (cases_lt (length l) (length k)) (find_no_deeper l p.1 k y p.3 q)
    where
      by : (length l < length k) ⊎ (length k ≤ length l) → find (λ d. is_among d k) (drop (length l - length k) l) ≡ find (λ d. is_among d k) l
          → find (λ d. is_among d k) (drop (length (z ∷ l) - length k) (z ∷ l)) ≡ find (λ d. is_among d k) (z ∷ l)
      by (inl h) r = let none : length (z ∷ l) - length k ≡ 0 = omega arith in ap (λ n. find (λ d. is_among d k) (drop n (z ∷ l))) none
      by (inr h) r =
          let one : length (z ∷ l) - length k ≡ suc (length l - length k) = omega arith in
          ap (λ n. find (λ d. is_among d k) (drop n (z ∷ l))) one ∙ r
          ∙ find_later (λ d. is_among d k) z l (z ∷ l) refl (too_deep z l k y (subst (λ v. Chain w v (z ∷ l)) p.0 p) q h)

  -- what stands deeper than the ancestors reach is not among them
  pub found_no_deeper : (x new other : ObjNo) → chain w other ≡ drop (length (chain w new) - length (ancestors w x)) (chain w new) → find (λ d. is_among d (ancestors w x)) (chain w other) ≡ find (λ d. is_among d (ancestors w x)) (chain w new)
  found_no_deeper x new other e =
      let a = some_chain new in
      let b = some_ancestors x in
      ap (find (λ d. is_among d (ancestors w x))) e ∙ find_no_deeper (chain w new) a.0 (ancestors w x) b.0 a.1 b.1

  -- two objects that stand as deep are one, where both are among the ancestors
  pub apart : (x other : ObjNo) (k : ℕ) (one : ObjNo) (c m : List ObjNo) → drop k (ancestors w x) ≡ one ∷ c → is_object w other ≡ true → chain w other ≡ other ∷ m → length c ≡ length m → false ≡ int_eq other.0 one.0 → is_among other (ancestors w x) ≡ false
  apart x other k one c m e o s long differ =
      false_from_ne_true (is_among other (ancestors w x)) (λ h.
      let l = ancestors w x in
      let a = some_ancestors x in
      let own : Chain w other (other ∷ m) = subst (Chain w other) s (Chain-chain w t other o) in
      let split : l ≡ front_of other l ++ (other ∷ m) = Climbs-split (parent_of w) (no_parent w t) l (other ∷ m) a.0 other a.1 own (inl h) in
      let all : length l ≡ length (front_of other l ++ (other ∷ m)) = ap length split in
      let rest : length (drop k l) ≡ length (one ∷ c) = ap length e in
      let place : length (front_of other l) ≡ k = omega (arith, length-append (front_of other l) (other ∷ m), length-drop k l) in
      let tails : one ∷ c ≡ other ∷ m = sym e ∙ ap (drop k) split ∙ drop_at (front_of other l) (other ∷ m) k place in
      let same : one ≡ other = cc in
      absurd (both_ways (same_object one other) (sym (same_object-eq one other) ∙ sym differ) ((same_object-Decides one other).1 same)))
