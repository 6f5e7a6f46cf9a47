-- What one line of a batch text is: blank, `end`, or words.
use Prim.Native.Char.{code}
use Rattle.std.specs.{Prelude.{ℕ, ◌==◌, ◌&&◌, Bool, false, not, nat_le, List, [], ◌∷◌, length, if◌then◌else◌}, List.{filter, slice_split}}
use Rattle.moo_value.specs.{Literal.{is_blank}, Reading.{after_blanks}}
use Rattle.moo_text.specs.declared.line.TheConstants.{LONGEST_LINE}

-- no line over this is blank, `end`, a header or a call
abbrev pub is_within_line : List ℕ → Bool
is_within_line line = nat_le (length line) LONGEST_LINE

-- spaces and tabs alone
abbrev pub is_all_blank : List ℕ → Bool
is_all_blank bytes = length (after_blanks bytes) == 0

-- a line of at most 262,144 bytes, all of them spaces and tabs
abbrev pub is_blank_line : List ℕ → Bool
is_blank_line line = is_within_line line && is_all_blank line

-- `end`, with nothing but spaces and tabs after it
abbrev pub is_end_word : List ℕ → Bool
is_end_word (a ∷ b ∷ c ∷ rest) = (a == code "e") && (b == code "n") && (c == code "d") && is_all_blank rest
is_end_word _ = false

-- a line of at most 262,144 bytes that is `end`, with spaces and tabs before and after
abbrev pub is_end_line : List ℕ → Bool
is_end_line line = is_within_line line && is_end_word (after_blanks line)

-- the words of a line: what is between spaces and tabs, in order
abbrev pub words_of_line : List ℕ → List (List ℕ)
words_of_line line = filter (λ word. not (length word == 0)) (slice_split is_blank line)

-- the bytes in front of the first space or tab
abbrev pub until_blank : List ℕ → List ℕ
until_blank [] = []
until_blank (c ∷ cs) = if is_blank c then [] else c ∷ until_blank cs

-- the bytes from the first space or tab on
abbrev pub from_blank : List ℕ → List ℕ
from_blank [] = []
from_blank (c ∷ cs) = if is_blank c then c ∷ cs else from_blank cs
