-- Petitions listed one after another.
use Rattle.std.{proofs.Common.{◌≡◌, Bool, true, false, cond, List, [], ◌∷◌, ◌++◌, append_assoc, map, sym, ap, ◌∙◌}, proofs.lemmas.List.{append-nil}, specs.List.{filter}}

module _ {A B : Type 0} (test : A → Bool) (f : A → B) where
  abbrev pub chosen : List A → List B
  chosen xs = map f (filter test xs)

  -- those chosen so far, and what is left to choose from
  abbrev pub IsChosen : List B → List A → List A → Type 0
  IsChosen found left all = found ++ chosen left ≡ chosen all

  pub none-chosen : (left all : List A) → left ≡ all → IsChosen [] left all
  none-chosen left all is = ap chosen is

  pub one-passed : (found : List B) (old left all : List A) (x : A) → old ≡ x ∷ left → test x ≡ false → IsChosen found old all → IsChosen found left all
  one-passed found old left all x is fails h =
      ap (λ b. found ++ map f (cond b (x ∷ filter test left) (filter test left))) (sym fails) ∙ ap (λ xs. found ++ chosen xs) (sym is) ∙ h

  pub one-chosen : (found more : List B) (old left all : List A) (x : A) → more ≡ found ++ f x ∷ [] → old ≡ x ∷ left → test x ≡ true → IsChosen found old all → IsChosen more left all
  one-chosen found more old left all x pushed is holds h =
      ap (λ xs. xs ++ chosen left) pushed ∙ append_assoc found (f x ∷ []) (chosen left)
      ∙ ap (λ b. found ++ map f (cond b (x ∷ filter test left) (filter test left))) (sym holds) ∙ ap (λ xs. found ++ chosen xs) (sym is) ∙ h

  pub all-chosen : (found : List B) (left all : List A) → left ≡ [] → IsChosen found left all → found ≡ chosen all
  all-chosen found left all none h = sym (append-nil found) ∙ ap (λ xs. found ++ chosen xs) (sym none) ∙ h
