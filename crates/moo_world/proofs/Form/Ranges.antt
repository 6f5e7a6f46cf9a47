-- The limits that the types of values keep, and the tests of them.
use Rattle.moo_world.proofs.Words.{◌≡◌, true, refl, ℤ, FitsSigned, w32, w64, arith, ℕ, List, length, nat_le, list_all, and_parts, le-leb, leb-true, Value, IsText, is_allowed, nesting, Values, int, object, string, error, list, is_integer, in_range, is_text, all_within_limits, is_within_limits, fits, TextIsTested, FitsIsTested, both_true}
use Rattle.moo_value.{specs.Literal.{HoldInside, HoldIn, InRange, Fits}, specs.Values.{no_values}}
use Rattle.moo_value.specs.declared.text.TheConstants.{MAX_LENGTH}
use Rattle.moo_value.specs.declared.value.TheConstants.{MAX_NESTING}

pub range_of : (n : ℤ) → FitsSigned w32 n → in_range n ≡ true
range_of n f = grind arith

pub fits_signed : (n : ℤ) → in_range n ≡ true → FitsSigned w32 n
fits_signed n e = grind arith

pub integer_of : (n : ℤ) → FitsSigned w64 n → is_integer n ≡ true
integer_of n f = grind arith

pub integer_fits : (n : ℤ) → is_integer n ≡ true → FitsSigned w64 n
integer_fits n e = grind arith

pub text_of : (s : List ℕ) → IsText s → is_text s ≡ true
text_of s t = both_true (le-leb (length s) MAX_LENGTH t.short) t.allowed

inside : (vs : Values) → HoldInside InRange IsText vs → all_within_limits vs ≡ true
inside no_values h = refl
inside (int n vs) h = both_true (integer_of n h.0) (inside vs h.1)
inside (object n vs) h = both_true (range_of n h.0) (inside vs h.1)
inside (string s vs) h = both_true (text_of s h.0) (inside vs h.1)
inside (error e vs) h = inside vs h
inside (list us vs) h = both_true (inside us h.0) (inside vs h.1)

in_value : (v : Value) → HoldIn InRange IsText v → is_within_limits v ≡ true
in_value v h = grind (arith, integer_of, range_of, text_of, inside)

is_text_of : (s : List ℕ) → is_text s ≡ true → IsText s
is_text_of s e = let parts = and_parts (nat_le (length s) MAX_LENGTH) (list_all is_allowed s) e in record { short = leb-true (length s) MAX_LENGTH parts.0; allowed = parts.1 }

hold_inside : (vs : Values) → all_within_limits vs ≡ true → HoldInside InRange IsText vs
hold_inside no_values e = tt
hold_inside (int n vs) e = let parts = and_parts (is_integer n) (all_within_limits vs) e in (integer_fits n parts.0, hold_inside vs parts.1)
hold_inside (object n vs) e = let parts = and_parts (in_range n) (all_within_limits vs) e in (fits_signed n parts.0, hold_inside vs parts.1)
hold_inside (string s vs) e = let parts = and_parts (is_text s) (all_within_limits vs) e in (is_text_of s parts.0, hold_inside vs parts.1)
hold_inside (error c vs) e = hold_inside vs e
hold_inside (list us vs) e = let parts = and_parts (all_within_limits us) (all_within_limits vs) e in (hold_inside us parts.0, hold_inside vs parts.1)

hold_in : (v : Value) → is_within_limits v ≡ true → HoldIn InRange IsText v
hold_in v e = grind (arith, integer_fits, fits_signed, is_text_of, hold_inside)

-- what is within the limits passes the test
pub fits_of : (v : Value) → Fits v → fits v ≡ true
fits_of v h = both_true (le-leb (nesting v) MAX_NESTING h.1) (in_value v h.0)

pub text_tested : TextIsTested
text_tested s = (is_text_of s, text_of s)

pub fits_tested : FitsIsTested
fits_tested v = (λ e. let parts = and_parts (nat_le (nesting v) MAX_NESTING) (is_within_limits v) e in (hold_in v parts.1, leb-true (nesting v) MAX_NESTING parts.0), fits_of v)
