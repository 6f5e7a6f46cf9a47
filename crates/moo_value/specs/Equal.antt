-- Tests that tell each value from every other.
use Rattle.std.{specs.Prelude.{◌≡◌, ◌==◌, ◌&&◌, Bool, true, false, refl}, specs.Bool.{Decides}, specs.Str.{bytes_eq}}
use Rattle.std.{proofs.lemmas.Slice.Eq.{bytes_eq-Decides}, specs.Cmp.{IsPartialEquivalence}, proofs.Common.{sym, ap, ◌∙◌}}
use Rattle.std.proofs.lemmas.Bool.Decides.{Decides-eqb}
use base.Stored.{Coded, Gv, gnil, gnum, gcons}

-- the test is true of each value and itself, and of no two others
abbrev pub IsExact : {A : Type 0} → (A → A → Bool) → Type 0
IsExact {A} same = (x y : A) → Decides (same x y) (x ≡ y)

abbrev same_code : Gv → Gv → Bool
same_code gnil gnil = true
same_code (gnum m) (gnum n) = m == n
same_code (gcons a b) (gcons c d) = same_code a c && same_code b d
same_code _ _ = false

-- whether two values of a type have one code
abbrev pub same_by : {A : Type 0} → Coded A → A → A → Bool
same_by coded x y = same_code (coded.code x) (coded.code y)

both-true : (a b : Bool) → (a && b) ≡ true → (a ≡ true) × (b ≡ true)
both-true true b e = (refl, e)
both-true false b e = absurd cc

code-exact : IsExact same_code
code-exact gnil gnil = (λ _. refl, λ _. refl)
code-exact (gnum m) (gnum n) = let h = Decides-eqb m n in (λ t. ap (λ k. gnum k) (h.0 t), λ e. h.1 cc)
code-exact (gcons a b) (gcons c d) =
    let front = code-exact a c in
    let back = code-exact b d in (
      λ t. let h = both-true (same_code a c) (same_code b d) t in λ i. gcons (front.0 h.0 i) (back.0 h.1 i),
      λ e. let l : same_code a c ≡ true = front.1 cc in let r : same_code b d ≡ true = back.1 cc in rw l r,
    )
code-exact _ _ = (λ t. absurd cc, λ e. absurd cc)

pub same_by-exact : {A : Type 0} (coded : Coded A) → IsExact (same_by coded)
same_by-exact coded x y =
    let h = code-exact (coded.code x) (coded.code y) in (λ t. coded.inj x y (h.0 t), λ e. h.1 (ap coded.code e))

-- two tests that imply each other are equal
pub both_ways : (a b : Bool) → (a ≡ true → b ≡ true) → (b ≡ true → a ≡ true) → a ≡ b
both_ways true b f g = sym (f refl)
both_ways false true f g = g refl
both_ways false false f g = refl

pub exact_laws : {A : Type 0} {same : A → A → Bool} → IsExact same → IsPartialEquivalence same
exact_laws {same = same} exact = record {
  symm = λ x y. both_ways (same x y) (same y x) (λ t. (exact y x).1 (sym ((exact x y).0 t))) (λ t. (exact x y).1 (sym ((exact y x).0 t)));
  trans = λ x y z s t. (exact x z).1 ((exact x y).0 s ∙ (exact y z).0 t);
}

pub text_laws : IsPartialEquivalence bytes_eq
text_laws = exact_laws bytes_eq-Decides
