-- The items of a list of lines, line by line.
use Rattle.std.specs.{Prelude.{ℕ, ◌+◌, nat_lt, List, [], ◌∷◌, ◌++◌, length, if◌then◌else◌}, Option.{option_map_or}, Str.Lines.{lines}}
use Rattle.moo_world.specs.{declared.call.Call.{Call}, declared.call.TheConstants.{MOST_CALLS}}
use Rattle.moo_text.specs.{Line.{is_blank_line, is_end_line}, LineReading.{header_of, call_of}, declared.header.Header.{Header}}
use Rattle.moo_text.specs.{declared.next.Next.{Next}, declared.next.Next.TheVariants.{Batch as Whole, Malformed, Truncated}}

abbrev mutual
  -- the items of lines between two batches
  pub between : List (List ℕ) → List Next
  between [] = []
  between (line ∷ rest) =
      if is_blank_line line then between rest
      else (if is_end_line line then Malformed 1 ∷ between rest
      else option_map_or (λ header. within header [] 1 rest) (header_of line) (skipping 1 rest))

  -- the items of lines inside a batch with this header and these calls, of which n lines are read
  pub within : Header → List Call → ℕ → List (List ℕ) → List Next
  within header calls n [] = Truncated ∷ []
  within header calls n (line ∷ rest) =
      if is_blank_line line then within header calls (n + 1) rest
      else (if is_end_line line then Whole (record { programmer = header.programmer; at = header.at; calls = calls }) ∷ between rest
      else option_map_or (λ call. if nat_lt (length calls) MOST_CALLS then within header (calls ++ call ∷ []) (n + 1) rest else skipping (n + 1) rest) (call_of line) (skipping (n + 1) rest))

  -- the items of lines after line n of a batch, its first bad line
  pub skipping : ℕ → List (List ℕ) → List Next
  skipping n [] = Truncated ∷ []
  skipping n (line ∷ rest) = if is_end_line line then Malformed n ∷ between rest else skipping n rest

-- the items of a text: its batches, and what is in the place of those that are malformed or cut off
abbrev pub items : List ℕ → List Next
items text = between (lines text)
