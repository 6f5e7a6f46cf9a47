-- Reading the header of a batch and a call from left to right.
use Rattle.std.specs.Prelude.{ℕ, zero, suc, ◌==◌, ◌&&◌, Bool, false, nat_le, List, [], ◌∷◌, length, Option, Some, None, Ok, Err, codes}
use Rattle.std.specs.{Prelude.{if◌then◌else◌}, Option.{option_map, option_map_or, option_and_then}, List.{list_all}}
use Rattle.moo_value.specs.{declared.value.ObjNo.{ObjNo}, declared.value.Value.{Value}, declared.value.Value.TheVariants.{Obj}}
use Rattle.moo_value.specs.{Literal.{is_digit, value_after}, Reading.{after_blanks, after_mark, word, after_word, literal_at, Read}}
use Rattle.moo_world.specs.{Objects.{same_text}, Names.{call_name_of}, declared.call.Call.{Call}}
use Rattle.moo_text.specs.{Line.{is_within_line, is_all_blank, words_of_line}, declared.header.Header.{Header}}

-- the value that was read and the bytes after it, without the fault if none was
abbrev pub found : Read Value → Option (Value × List ℕ)
found (Ok x) = Some x
found (Err f) = None

-- the literal that is in front, and what follows it
unfoldable pub front_of : List ℕ → Option (Value × List ℕ)
front_of b = found (literal_at b)

-- ---- headers

-- the words after this first one
abbrev pub behind_word : List ℕ → List (List ℕ) → Option (List (List ℕ))
behind_word w [] = None
behind_word w (x ∷ xs) = if same_text x w then Some xs else None

-- the object that a value is
abbrev pub object_value : Value → Option ObjNo
object_value (Obj o) = Some o
object_value v = None

-- the bytes begin with this one
abbrev pub begins_with_byte : ℕ → List ℕ → Bool
begins_with_byte c [] = false
begins_with_byte c (d ∷ ds) = d == c

-- the object whose literal a word is, from its `#` on
abbrev pub object_of : List ℕ → Option ObjNo
object_of w = if begins_with_byte 35 w then option_and_then (λ x. if length x.1 == 0 then object_value x.0 else None) (front_of w) else None

-- 1 to 19 digits, with a value of at most 9223372036854775807
abbrev pub is_place : List ℕ → Bool
is_place digits = list_all is_digit digits && nat_le 1 (length digits) && nat_le (length digits) 19 && nat_le (value_after 0 digits) 9223372036854775807

-- the number that 1 to 19 digits spell
abbrev pub place_number : List ℕ → Option ℕ
place_number digits = if is_place digits then Some (value_after 0 digits) else None

-- the number that the one word left spells
abbrev pub last_place : List (List ℕ) → Option ℕ
last_place [] = None
last_place (n ∷ more) = if length more == 0 then place_number n else None

-- after how many accepted batches a batch is due, from the words after the programmer: none, or `at` and a number. `None` outside if there
-- are other words, inside if there are no words
abbrev pub at_of : List (List ℕ) → Option (Option ℕ)
at_of [] = Some None
at_of (w ∷ ws) = option_map (λ m. Some m) (option_and_then last_place (behind_word (codes "at") (w ∷ ws)))

-- the header of the words after `batch as`
abbrev pub header_behind : List (List ℕ) → Option Header
header_behind [] = None
header_behind (o ∷ more) = option_and_then (λ p. option_map (λ at. record { programmer = p; at = at }) (at_of more)) (object_of o)

-- the header that a line of at most 262,144 bytes is: `batch as #N`, or `batch as #N at M`
abbrev pub header_of : List ℕ → Option Header
header_of line = if is_within_line line then option_and_then header_behind (option_and_then (behind_word (codes "as")) (behind_word (codes "batch") (words_of_line line))) else None

-- ---- calls

-- nothing more than a closing mark gives these arguments
abbrev pub closed : List Value → List ℕ → Option (List Value)
closed args end = if is_all_blank end then Some args else None

-- the arguments that end with v, or those that `more` gives after v and a comma
abbrev pub behind_value : ℕ → Value → (List ℕ → Option (List Value)) → List ℕ → Option (List Value)
behind_value mark v more rest =
    option_map_or (closed (v ∷ [])) (after_mark mark rest) (option_and_then (λ others. option_map (λ vs. v ∷ vs) (more others)) (after_mark 44 rest))

-- so many arguments at most, one at least, to the mark that ends the line
abbrev pub values_at : ℕ → ℕ → List ℕ → Option (List Value)
values_at mark zero b = None
values_at mark (suc most) b = option_and_then (λ x. behind_value mark x.0 (values_at mark most) x.1) (front_of b)

-- the arguments of a call, from past its `(` to the `)` that ends the line
abbrev pub arguments_of : List ℕ → Option (List Value)
arguments_of b = option_map_or (closed []) (after_mark 41 b) (values_at 41 (length b) b)

-- the call that bytes spell without blanks in front
abbrev pub call_behind : List ℕ → Option Call
call_behind b =
    option_and_then (λ name. option_and_then (λ rest. option_map (λ args. record { name = name; args = args }) (arguments_of rest)) (after_mark 40 (after_word b)))
    (call_name_of (word b))

-- the call that a line of at most 262,144 bytes spells
abbrev pub call_of : List ℕ → Option Call
call_of line = if is_within_line line then call_behind (after_blanks line) else None
