-- The lines of a text.
use Rattle.std.specs.{Prelude.{◌≡◌, ℕ, ◌+◌, ◌==◌, List, ◌++◌}, List.{count_by}}

-- how many lines end in a text
abbrev pub line_ends : List ℕ → ℕ
line_ends text = count_by (λ byte. byte == 10) text

-- some place of the text is in its line of this number, from 1
abbrev pub IsLineOf : List ℕ → ℕ → Type 0
IsLineOf text number = (front rest : List ℕ) × (text ≡ front ++ rest) × (number ≡ line_ends front + 1)
