-- How the header of a batch and a call are spelled on a line.
use Prim.Native.Char.{code}
use Rattle.std.specs.Prelude.{◌≡◌, ℕ, ◌<◌, ◌≤◌, Bool, true, false, List, [], ◌∷◌, ◌++◌, length, Option, Some, None, IsTrue, codes}
use Rattle.std.specs.List.{AllByRecursion}
use Rattle.moo_value.specs.declared.value.Value.{Value}
use Rattle.moo_value.specs.Literal.{is_word, AreBlanks, AreDigits, value_after, SpellsObject, Spaced, Item, SpellsToken, Fits, InRange}
use Rattle.moo_value.specs.Literal.{an_object}
use Rattle.moo_world.specs.{Objects.{folded}, Names.{spelling}, declared.name.CallName.{CallName}, declared.call.Call.{Call}}
use Rattle.moo_text.specs.{Line.{words_of_line}, declared.header.Header.{Header}, declared.line.TheConstants.{LONGEST_LINE}}

-- 1 to 19 digits, with a value of at most 9223372036854775807
pub record SpellsPlace (n : ℕ) (word : List ℕ) : Type 0 where
  pub each : AreDigits word
  pub some : 0 < length word
  pub few : length word ≤ 19
  pub value : n ≡ value_after 0 word
  pub in_range : n ≤ 9223372036854775807

-- nothing more, or `at` and a number
abbrev pub SpellsAt : Option ℕ → List (List ℕ) → Type 0
SpellsAt None more = more ≡ []
SpellsAt (Some n) more = (word : List ℕ) × (more ≡ codes "at" ∷ word ∷ []) × SpellsPlace n word

-- `batch as #N` or `batch as #N at M`
pub record SpellsHeader (header : Header) (line : List ℕ) : Type 0 where
  pub short : length line ≤ LONGEST_LINE
  pub object : List ℕ
  pub more : List (List ℕ)
  pub words_are : words_of_line line ≡ codes "batch" ∷ codes "as" ∷ object ∷ more
  pub programmer : SpellsObject header.programmer.0 object
  pub in_range : InRange an_object header.programmer.0
  pub place : SpellsAt header.at more

-- letters, digits and underscores that name a call, in any case
pub record SpellsCallName (name : CallName) (b : List ℕ) : Type 0 where
  pub letters : AllByRecursion (λ c. IsTrue (is_word c)) b
  pub names : folded b ≡ spelling name

-- the bracket that closes a call, and the end of the line
abbrev pub ClosesCall : List ℕ → Type 0
ClosesCall b = (blanks : List ℕ) × AreBlanks blanks × (b ≡ code ")" ∷ blanks)

-- the arguments of a call after its bracket, to the end of the line; a comma comes before each but the first
abbrev pub SpellsArguments : Bool → List Value → List ℕ → Type 0
SpellsArguments first [] b = Spaced ClosesCall b
SpellsArguments first (v ∷ vs) b = Fits v × Item first (SpellsToken v) (SpellsArguments false vs) b

-- `name(value, ...)`
pub record SpellsCall (call : Call) (line : List ℕ) : Type 0 where
  pub short : length line ≤ LONGEST_LINE
  pub before : List ℕ
  pub name : List ℕ
  pub between : List ℕ
  pub behind : List ℕ
  pub whole : line ≡ before ++ (name ++ (between ++ code "(" ∷ behind))
  pub blank_before : AreBlanks before
  pub is_name : SpellsCallName call.name name
  pub blank_between : AreBlanks between
  pub arguments : SpellsArguments true call.args behind
