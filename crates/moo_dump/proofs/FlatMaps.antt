-- Lists joined of the lists that are made of elements.
use Rattle.moo_dump.proofs.Words.{arith, ◌≡◌, ℕ, ◌+◌, ◌<◌, ◌≤◌, Bool, true, false, cond, List, [], ◌∷◌, ◌++◌, refl, sym, ap, ◌∙◌, append_assoc, take_all, get_or, length, take, filter, flat_map, AllByRecursion}
use Rattle.std.{proofs.Common.{map}, proofs.lemmas.List.{flat_map_more, take_more}, proofs.lemmas.List.Concat.{flat_map-append}}

pub flat_map-map : {A B C : Type 0} (f : B → List C) (g : A → B) (l : List A) → flat_map f (map g l) ≡ flat_map (λ a. f (g a)) l
flat_map-map f g [] = refl
flat_map-map f g (a ∷ l) = ap (λ r. f (g a) ++ r) (flat_map-map f g l)

pub flat_map-flat_map : {A B C : Type 0} (f : B → List C) (g : A → List B) (l : List A) → flat_map f (flat_map g l) ≡ flat_map (λ a. flat_map f (g a)) l
flat_map-flat_map f g [] = refl
flat_map-flat_map f g (a ∷ l) = flat_map-append f (g a) (flat_map g l) ∙ ap (λ r. flat_map f (g a) ++ r) (flat_map-flat_map f g l)

-- what is made alike of each
pub flat_map-alike : {A C : Type 0} (P : A → Type 0) (f g : A → List C) → ((a : A) → P a → f a ≡ g a) → (l : List A) → AllByRecursion P l → flat_map f l ≡ flat_map g l
flat_map-alike P f g h [] a = refl
flat_map-alike P f g h (x ∷ l) a = λ i. h x a.0 i ++ flat_map-alike P f g h l a.1 i

-- what holds of each holds of those that pass, and they pass
pub all_passing : {A : Type 0} (P : A → Type 0) (test : A → Bool) (l : List A) → AllByRecursion P l → AllByRecursion (λ a. P a × (test a ≡ true)) (filter test l)
all_passing P test [] a = tt
all_passing P test (x ∷ l) a = elim (test x) as (λ (b : Bool). test x ≡ b → AllByRecursion (λ a. P a × (test a ≡ true)) (filter test l) → AllByRecursion (λ a. P a × (test a ≡ true)) (cond b (x ∷ filter test l) (filter test l))) [ true ↦ λ e r. ((a.0, e), r) | false ↦ λ e r. r ] refl (all_passing P test l a.1)

-- a text with what is made of one element more
pub one_more : {A : Type 0} (f : A → List ℕ) (old : List ℕ) (l : List A) (i : ℕ) (default : A) (before after : List ℕ) → i < length l → after ≡ before ++ f (get_or l i default) → before ≡ old ++ flat_map f (take i l) → after ≡ old ++ flat_map f (take (i + 1) l)
one_more f old l i default before after within put done = grind (arith, flat_map_more, take_more)

-- and with what is made of all of them
pub all_made : {A : Type 0} (f : A → List ℕ) (old : List ℕ) (l : List A) (i : ℕ) (now : List ℕ) → length l ≤ i → now ≡ old ++ flat_map f (take i l) → now ≡ old ++ flat_map f l
all_made f old l i now past done = done ∙ ap (λ m. old ++ flat_map f m) (take_all i l past)

-- what is left after one piece more
pub one_left : {A : Type 0} (next now piece left ahead whole : List A) → next ≡ now ++ piece → ahead ≡ piece ++ left → now ++ ahead ≡ whole → next ++ left ≡ whole
one_left next now piece left ahead whole put is before = ap (λ l. l ++ left) put ∙ append_assoc now piece left ∙ ap (λ l. now ++ l) (sym is) ∙ before
