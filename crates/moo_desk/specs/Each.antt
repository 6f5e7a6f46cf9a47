-- Two lists, one against the other.
use Rattle.std.specs.Prelude.{◌≡◌, ◌⊎◌, ℕ, zero, suc, List, [], ◌∷◌, ◌++◌, ⊤, Option, Some, None}

-- the lists have one length, and this holds of each item of the first and the item at its place in the second
abbrev pub Each : {A : Type 0} → (A → A → Type 0) → List A → List A → Type 0
Each Holds [] [] = ⊤
Each Holds (x ∷ xs) (y ∷ ys) = Holds x y × Each Holds xs ys
Each Holds xs ys = ⊥

-- the second list is the first without this item
abbrev pub TakesOut : {A : Type 0} → List A → A → List A → Type 0
TakesOut {A} xs x ys = (front back : List A) × (xs ≡ front ++ x ∷ back) × (ys ≡ front ++ back)

-- this holds of no item of the list
abbrev pub HoldsOfNone : {A : Type 0} → (A → Type 0) → List A → Type 0
HoldsOfNone Holds [] = ⊤
HoldsOfNone Holds (x ∷ xs) = (¬ (Holds x)) × HoldsOfNone Holds xs

-- the second list is the first without this item, which is the first of which this holds
abbrev pub TakesOutFirst : {A : Type 0} → (A → Type 0) → List A → A → List A → Type 0
TakesOutFirst {A} Holds xs x ys =
    (front back : List A) × HoldsOfNone Holds front × Holds x × (xs ≡ front ++ x ∷ back) × (ys ≡ front ++ back)

-- the place of the first item of which this holds, or none if it holds of no item
abbrev pub IsFirstPlace : {A : Type 0} → (A → Type 0) → List A → Option ℕ → Type 0
IsFirstPlace Holds xs None = HoldsOfNone Holds xs
IsFirstPlace Holds [] (Some place) = ⊥
IsFirstPlace Holds (x ∷ xs) (Some zero) = Holds x
IsFirstPlace Holds (x ∷ xs) (Some (suc place)) = (¬ (Holds x)) × IsFirstPlace Holds xs (Some place)

-- `Then` is so of the first item of which `Holds` is, if there is one
abbrev pub OfFirst : {A : Type 0} → (A → Type 0) → (A → Type 0) → List A → Type 0
OfFirst Holds Then [] = ⊤
OfFirst Holds Then (x ∷ xs) = (Holds x → Then x) × (¬ (Holds x) → OfFirst Holds Then xs)

-- the first item of which this holds turns into another, and the others stay; there is one
abbrev pub TurnsFirst : {A : Type 0} → (A → Type 0) → (A → A → Type 0) → List A → List A → Type 0
TurnsFirst Holds Turns (x ∷ xs) (y ∷ ys) =
    (Holds x × Turns x y × (ys ≡ xs)) ⊎ ((¬ (Holds x)) × (y ≡ x) × TurnsFirst Holds Turns xs ys)
TurnsFirst Holds Turns xs ys = ⊥
