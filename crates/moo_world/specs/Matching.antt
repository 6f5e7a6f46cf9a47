-- Which words a verb's names match.
-- LambdaMOO Programmer's Manual, 'Verbs on Objects' in the chapter on the database. Names compare without case, as in LambdaMOO 1.8. That
-- only the first star of a name counts, and a later one stands for itself, is this server's own.
use Rattle.std.specs.Prelude.{ℕ, ◌+◌, ◌==◌, ◌&&◌, ◌||◌, not, Bool, List, length, take, drop, Option, None, Some}
use Prim.Native.Char.{code}
use Rattle.std.specs.List.{filter, list_any, position, slice_split}
use Rattle.moo_world.specs.Objects.{Name, same_text, folded}

-- the byte is a star
abbrev pub is_star : ℕ → Bool
is_star byte = byte == code "*"

-- the byte is a space
abbrev pub is_space : ℕ → Bool
is_space byte = byte == code " "

-- the text has no byte
abbrev pub is_empty : Name → Bool
is_empty text = length text == 0

-- two names are equal but for the case of their ASCII letters
abbrev pub same_name : Name → Name → Bool
same_name first second = same_text (folded first) (folded second)

-- the text begins with the front, in any case
abbrev pub begins_with : Name → Name → Bool
begins_with text front = same_name (take (length front) text) front

-- the word begins with the part before the star, and its rest begins the part after the star, or is anything if that part is empty
abbrev pub matches_around : Name → Name → Name → Bool
matches_around front back word =
    begins_with word front && (is_empty back || begins_with back (drop (length front) word))

-- a name matches a word around the star at this place, or if it has none as a whole
abbrev pub matches_at : Option ℕ → Name → Name → Bool
matches_at None name word = same_name name word
matches_at (Some star) name word = matches_around (take star name) (drop (star + 1) name) word

-- Without a star, the word is the name. With one, the word is the part before the star and any first letters of the part after it. If
-- nothing is after the star, the word begins with the part before it.
abbrev pub matches : Name → Name → Bool
matches name word = matches_at (position is_star name) name word

-- the names of a verb one by one: they are between spaces
abbrev pub words : Name → List Name
words names = filter (λ name. not (is_empty name)) (slice_split is_space names)

-- one of the names of a verb matches the word
abbrev pub one_matches : Name → Name → Bool
one_matches names word = list_any (λ name. matches name word) (words names)
