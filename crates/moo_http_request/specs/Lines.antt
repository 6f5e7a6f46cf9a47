-- What the lines of a head say of who sent it, and of the length of a body.
use Rattle.std.specs.Prelude.{◌≡◌, ◌<◌, ℕ, List, [], ◌∷◌, Bool, Option, Some, None, map, codes, bytes_eq, nat_lt, length, if◌then◌else◌}
use Rattle.std.specs.{List.{filter}, Char.{to_ascii_lowercase}}
use Rattle.moo_http_request.specs.{declared.lines.FoundLine.{FoundLine}, declared.lines.FoundLine.TheVariants.{Nothing, One, Several}}

-- a line of a head: its name and its value
abbrev pub Line : Type 0
Line = List ℕ × List ℕ

-- two names have the same letters, in any case
abbrev pub is_same_name : List ℕ → List ℕ → Bool
is_same_name x y = bytes_eq (map to_ascii_lowercase x) (map to_ascii_lowercase y)

-- the values of the lines of that name, in any case
abbrev pub values_of : List ℕ → List Line → List (List ℕ)
values_of name lines = map (λ line. line.1) (filter (λ line. is_same_name line.0 name) lines)

-- What was found of the values of lines that have one name: none, the one value, or more than one.
abbrev pub IsFoundAmong : List (List ℕ) → FoundLine → Type 0
IsFoundAmong values Nothing = values ≡ []
IsFoundAmong values (One value) = values ≡ value.now ∷ []
IsFoundAmong values Several = 1 < length values

-- a page of a browser sent it: there is a line of the name origin
abbrev pub is_from_page : List Line → Bool
is_from_page lines = nat_lt 0 (length (values_of (codes "origin") lines))

-- a line names a coding of the body, as of one in chunks
abbrev pub is_coded : List Line → Bool
is_coded lines = nat_lt 0 (length (values_of (codes "transfer-encoding") lines))

-- the text of a list of one text; None if it has none or more
abbrev pub only : List (List ℕ) → Option (List ℕ)
only (text ∷ []) = Some text
only texts = None

-- the one stated length of the body, as it is written, if no coding is named
abbrev pub length_text : List Line → Option (List ℕ)
length_text lines = if is_coded lines then None else only (values_of (codes "content-length") lines)
