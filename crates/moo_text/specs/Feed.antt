-- What reading in pieces does to the bytes of a text that are not used yet.
use Rattle.std.specs.{Prelude.{◌≡◌, ◌<◌, ℕ, List, [], ◌∷◌, length, Option, Some, None, ◌⊎◌}, Str.Lines.{lines}}
use Rattle.moo_text.specs.{Items.{between}, declared.next.Next.{Next}, declared.next.Next.TheVariants.{End}}
use Rattle.moo_text.specs.declared.line.TheConstants.{LONGEST_LINE}

-- a line is read whole, or, if it is longer than a line may be, the beginning of it by which that is seen
abbrev pub IsLineRead : List ℕ → List ℕ → Type 0
IsLineRead read line = (read ≡ line) ⊎ ((LONGEST_LINE < length read) × (LONGEST_LINE < length line))

-- the first line of the text is taken; no line if the text is at its end
abbrev pub TakesLine : List ℕ → List ℕ → Option (List ℕ) → Type 0
TakesLine old new None = (old ≡ []) × (new ≡ [])
TakesLine old new (Some read) = (line : List ℕ) × IsLineRead read line × (lines old ≡ line ∷ lines new)

-- the items that f finds in the lines of the text before are those that g finds in the lines of the text after
abbrev pub Carries : (List (List ℕ) → List Next) → (List (List ℕ) → List Next) → List ℕ → List ℕ → Type 0
Carries f g old new = f (lines old) ≡ g (lines new)

-- the first item that f finds is taken; after it the text is between two batches. It is never the end
abbrev pub TakesFirst : (List (List ℕ) → List Next) → List ℕ → List ℕ → Next → Type 0
TakesFirst f old new End = ⊥
TakesFirst f old new item = Carries f (λ rest. item ∷ between rest) old new

-- the first item of the text is taken; `End` if the text has no item
abbrev pub TakesNext : List ℕ → List ℕ → Next → Type 0
TakesNext old new End = Carries between (λ rest. []) old new
TakesNext old new item = TakesFirst between old new item
