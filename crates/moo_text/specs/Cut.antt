-- How a whole text is cut into batches.
use Rattle.std.specs.{Prelude.{◌≡◌, ◌≤◌, ◌+◌, ℕ, true, false, List, [], ◌∷◌, ◌++◌, length, ◌⊎◌}, List.{AllByRecursion}}
use Rattle.moo_world.specs.{declared.call.Call.{Call}, declared.call.Batch.{Batch}, declared.call.TheConstants.{MOST_CALLS}}
use Rattle.moo_text.specs.{Line.{is_blank_line, is_end_line}, Grammar.{SpellsHeader, SpellsCall}, declared.header.Header.{Header}}
use Rattle.moo_text.specs.{declared.next.Next.{Next}, declared.next.Next.TheVariants.{Batch as Whole, Malformed, Truncated, End}}

-- each line is blank
abbrev pub AreBlankLines : List (List ℕ) → Type 0
AreBlankLines lines = AllByRecursion (λ line. is_blank_line line ≡ true) lines

-- no line is `end`
abbrev pub HaveNoEnd : List (List ℕ) → Type 0
HaveNoEnd lines = AllByRecursion (λ line. is_end_line line ≡ false) lines

-- a line that is neither blank nor `end`
pub record IsContentLine (line : List ℕ) : Type 0 where
  pub not_blank : is_blank_line line ≡ false
  pub not_end : is_end_line line ≡ false

-- the line spells no header
abbrev pub IsNoHeader : List ℕ → Type 0
IsNoHeader line = (header : Header) → ¬ (SpellsHeader header line)

-- the line spells no call
abbrev pub IsNoCall : List ℕ → Type 0
IsNoCall line = (call : Call) → ¬ (SpellsCall call line)

-- lines that are blank or calls, and these calls
abbrev pub AreCalls : List (List ℕ) → List Call → Type 0
AreCalls [] calls = calls ≡ []
AreCalls (line ∷ lines) calls = ((is_blank_line line ≡ true) × AreCalls lines calls)
    ⊎ (IsContentLine line × ((call : Call) × (others : List Call) × SpellsCall call line × (calls ≡ call ∷ others) × AreCalls lines others))

-- a batch: a header, at most 1,000 calls, and an end
pub record IsBatch (lines : List (List ℕ)) (batch : Batch) (rest : List (List ℕ)) : Type 0 where
  pub header : List ℕ
  pub body : List (List ℕ)
  pub last : List ℕ
  pub whole : lines ≡ header ∷ (body ++ last ∷ rest)
  pub is_text : IsContentLine header
  pub is_header : SpellsHeader (record { programmer = batch.programmer; at = batch.at }) header
  pub are_calls : AreCalls body batch.calls
  pub few : length batch.calls ≤ MOST_CALLS
  pub not_blank : is_blank_line last ≡ false
  pub is_end : is_end_line last ≡ true

-- the first line of the batch that is bad is line n: a bad header; a line that isn't a call, or a call too many
abbrev pub IsFirstBad : List (List ℕ) → ℕ → List (List ℕ) → Type 0
IsFirstBad lines n rest =
    ((header : List ℕ) × IsContentLine header × IsNoHeader header × (lines ≡ header ∷ rest) × (n ≡ 1))
    ⊎ ((header : List ℕ) × (h : Header) × (body : List (List ℕ)) × (bad : List ℕ) × (calls : List Call) × IsContentLine header × SpellsHeader h header
    × AreCalls body calls × (length calls ≤ MOST_CALLS) × IsContentLine bad × (IsNoCall bad ⊎ (length calls ≡ MOST_CALLS))
    × (lines ≡ header ∷ (body ++ bad ∷ rest)) × (n ≡ length body + 2))

-- a malformed batch goes on to its next end; a line `end` in a header's place is one by itself
abbrev pub IsMalformed : List (List ℕ) → ℕ → List (List ℕ) → Type 0
IsMalformed lines n rest =
    ((last : List ℕ) × (is_blank_line last ≡ false) × (is_end_line last ≡ true) × (lines ≡ last ∷ rest) × (n ≡ 1))
    ⊎ ((skipped : List (List ℕ)) × (last : List ℕ) × IsFirstBad lines n (skipped ++ last ∷ rest) × HaveNoEnd skipped × (is_end_line last ≡ true))

-- the text ends inside a batch
abbrev pub IsTruncated : List (List ℕ) → Type 0
IsTruncated lines = (header : List ℕ) × (body : List (List ℕ)) × (lines ≡ header ∷ body) × IsContentLine header × HaveNoEnd body

-- a list of lines is cut into these items
abbrev pub Cuts : List (List ℕ) → List Next → Type 0
Cuts lines [] = AreBlankLines lines
Cuts lines (Whole batch ∷ items) = (blanks first rest : List (List ℕ)) × (lines ≡ blanks ++ first) × AreBlankLines blanks × IsBatch first batch rest × Cuts rest items
Cuts lines (Malformed n ∷ items) = (blanks first rest : List (List ℕ)) × (lines ≡ blanks ++ first) × AreBlankLines blanks × IsMalformed first n rest × Cuts rest items
Cuts lines (Truncated ∷ items) = (blanks first : List (List ℕ)) × (lines ≡ blanks ++ first) × AreBlankLines blanks × IsTruncated first × (items ≡ [])
Cuts lines (End ∷ items) = ⊥
