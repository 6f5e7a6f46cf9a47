-- A search through the front of a list, one element after another.
use Rattle.std.proofs.Common.{◌≡◌, ◌≢◌, ◌-◌, ℕ, zero, suc, Bool, Option, None, Some, List, [], ◌∷◌, map, take, refl, sym, ap, ◌∙◌, arith}
use Rattle.std.{specs.Prelude.{if◌then◌else◌}, specs.List.{find}}

module _ {A E : Type 0} (name : E → A) (test : A → Bool) where
  abbrev pub found : ℕ → List E → Option A
  found room left = find test (take room (map name left))

  pub found_next : (room : ℕ) (e : E) (left rest : List E) → left ≡ e ∷ rest → room ≢ 0 → found room left ≡ (if test (name e) then Some (name e) else found (room - 1) rest)
  found_next room e left rest whole some = ap (found room) whole ∙ by room some
    where
      by : (n : ℕ) → n ≢ 0 → found n (e ∷ rest) ≡ (if test (name e) then Some (name e) else found (n - 1) rest)
      by zero some = absurd (some refl)
      by (suc n) some = let less : suc n - 1 ≡ n = omega arith in ap (λ k. if test (name e) then Some (name e) else found k rest) (sym less)

pub nothing_found : {A : Type 0} (test : A → Bool) (room : ℕ) → find test (take room []) ≡ None
nothing_found test zero = refl
nothing_found test (suc room) = refl
