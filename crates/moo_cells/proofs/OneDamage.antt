-- Damage is of one kind, at one key.
use Rattle.moo_cells.{proofs.Words.{◌≡◌, ◌⊎◌, inl, inr, ℕ, ◌<◌, ℤ, ◌<ℤ◌, refl, sym, ap, subst, ◌∙◌, arith, int_cmp, nat_cmp, int_ranked, ranked, Ordering, Less, Equal, Greater, Kind, Key, Object, Prop, Slot, Verb, Petition, rank, IsBelow, IsFirstMet}, proofs.Ranks.{by_key, kind_at, kind_again}}
use Rattle.moo_damage.specs.declared.kind.Key.TheVariants.{Head}

-- ---- orders

data Order3 (P Q R : Type 0) : Type 0 where
  below : P → Order3 P Q R
  same : Q → Order3 P Q R
  above : R → Order3 P Q R

by_order : {P Q R : Type 0} (o : Ordering) → (Less ≡ o → P) → (Equal ≡ o → Q) → (Greater ≡ o → R) → Order3 P Q R
by_order Less f g h = below (f refl)
by_order Equal f g h = same (g refl)
by_order Greater f g h = above (h refl)

nat_order : (m n : ℕ) → Order3 (m < n) (m ≡ n) (n < m)
nat_order m n = by_order (nat_cmp m n) (ranked m n Less) (ranked m n Equal) (ranked m n Greater)

int_order : (m n : ℤ) → Order3 (m <ℤ n) (m ≡ n) (n <ℤ m)
int_order m n = by_order (int_cmp m n) (int_ranked m n Less) (int_ranked m n Equal) (int_ranked m n Greater)

abbrev PairLess : ℤ → ℤ → ℤ → ℤ → Type 0
PairLess n i k j = (n <ℤ k) ⊎ ((n ≡ k) × (i <ℤ j))

pair_order : (n i k j : ℤ) → Order3 (PairLess n i k j) ((n ≡ k) × (i ≡ j)) (PairLess k j n i)
pair_order n i k j = go (int_order n k)
  where
    second : n ≡ k → Order3 (i <ℤ j) (i ≡ j) (j <ℤ i) → Order3 (PairLess n i k j) ((n ≡ k) × (i ≡ j)) (PairLess k j n i)
    second e (below h) = below (inr (e, h))
    second e (same h) = same (e, h)
    second e (above h) = above (inr (sym e, h))

    go : Order3 (n <ℤ k) (n ≡ k) (k <ℤ n) → Order3 (PairLess n i k j) ((n ≡ k) × (i ≡ j)) (PairLess k j n i)
    go (below h) = below (inl h)
    go (same e) = second e (int_order i j)
    go (above h) = above (inl h)

-- what is neither below nor above is the same
only_same : {P Q R : Type 0} → Order3 P Q R → ¬ P → ¬ R → Q
only_same (below h) not_below not_above = absurd (not_below h)
only_same (same h) not_below not_above = h
only_same (above h) not_below not_above = absurd (not_above h)

map_order : {P Q R Q′ : Type 0} → (Q → Q′) → Order3 P Q R → Order3 P Q′ R
map_order f (below h) = below h
map_order f (same h) = same (f h)
map_order f (above h) = above h

abbrev Ordered : Key → Key → Type 0
Ordered a b = Order3 (IsBelow a b) (a ≡ b) (IsBelow b a)

-- two keys, one of which is below the other unless they are one
key_order : (a b : Key) → Ordered a b
key_order Head = by_key (Ordered Head) (same refl) (λ k. below (omega arith)) (λ k. below (omega arith)) (λ k j. below (omega arith)) (λ k j. below (omega arith)) (λ k. below (omega arith))
key_order (Object n) = by_key (Ordered (Object n)) (above (omega arith)) (λ k. map_order (λ e i. Object (e i)) (int_order n k)) (λ k. below (omega arith)) (λ k j. below (omega arith)) (λ k j. below (omega arith)) (λ k. below (omega arith))
key_order (Prop n) = by_key (Ordered (Prop n)) (above (omega arith)) (λ k. above (omega arith)) (λ k. map_order (λ e i. Prop (e i)) (int_order n k)) (λ k j. below (omega arith)) (λ k j. below (omega arith)) (λ k. below (omega arith))
key_order (Slot n i) = by_key (Ordered (Slot n i)) (above (omega arith)) (λ k. above (omega arith)) (λ k. above (omega arith)) (λ k j. map_order (λ e l. Slot (e.0 l) (e.1 l)) (pair_order n i k j)) (λ k j. below (omega arith)) (λ k. below (omega arith))
key_order (Verb n i) = by_key (Ordered (Verb n i)) (above (omega arith)) (λ k. above (omega arith)) (λ k. above (omega arith)) (λ k j. above (omega arith)) (λ k j. map_order (λ e l. Verb (e.0 l) (e.1 l)) (pair_order n i k j)) (λ k. below (omega arith))
key_order (Petition n) = by_key (Ordered (Petition n)) (above (omega arith)) (λ k. above (omega arith)) (λ k. above (omega arith)) (λ k j. above (omega arith)) (λ k j. above (omega arith)) (λ k. map_order (λ e i. Petition (e i)) (int_order n k))

-- ---- one damage

one_key : (meets : Kind → Key → Type 0) (kind : Kind) (key at : Key) → IsFirstMet meets kind key → IsFirstMet meets kind at → key ≡ at
one_key meets kind key at f g = only_same (key_order key at) (λ h. g.1.1 key h f.1.0) (λ h. f.1.1 at h g.1.0)

pub one_damage : (meets : Kind → Key → Type 0) (kind other : Kind) (key at : Key) → IsFirstMet meets kind key → IsFirstMet meets other at → (kind ≡ other) × (key ≡ at)
one_damage meets kind other key at f g =
    let is : kind ≡ other = sym (kind_again kind) ∙ ap kind_at (only_same (nat_order (rank kind) (rank other)) (λ h. g.0 kind h key f.1.0) (λ h. f.0 other h at g.1.0)) ∙ kind_again other in
    (is, one_key meets other key at (subst (λ k. IsFirstMet meets k key) is f) g)
