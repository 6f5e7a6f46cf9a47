-- Strings and printed literals are ASCII.
use Rattle.moo_http_response.proofs.Words.{◌≡◌, ℕ, zero, suc, ℤ, pos, negsuc, ◌<◌, ◌^◌, Bool, true, false, ◌&&◌, ◌||◌, ◌==◌, nat_lt, List, [], ◌∷◌, refl, arith, IsAscii, IsUtf8, is_allowed, IsText, Values, no_values, int, object, error, list, name, escape, print_string, print_comma, print_items, print, HoldIn, HoldInside, NumberKind, an_integer, an_object, InRange, Value, Int, Obj, Str, Error}
use Rattle.std.{specs.Prelude.{if◌then◌else◌}, specs.Fmt.{signed_decimal}, specs.List.{list_all, flat_map}, proofs.lemmas.Str.{IsAscii-append, IsUtf8-from_ascii}, proofs.lemmas.Str.Ascii.{IsAscii-nil}, proofs.lemmas.Fmt.{IsAscii-decimal}}
use Rattle.moo_value.{specs.Values.{string}, specs.declared.code.Code.{Code}, specs.declared.code.Code.TheVariants.{None, «Type», Division, Permission, PropertyNotFound, VerbNotFound, VariableNotFound, InvalidIndirection, RecursiveMove, MaxRecursion, Range, Arguments, NotAccepted, InvalidArgument, Quota, Float}, specs.declared.value.Value.TheVariants.{List as a_list}}

both : (a b : Bool) → (a && b) ≡ true → (a ≡ true) × (b ≡ true)
both true b e = (refl, e)
both false b e = absurd cc

behind : (c : ℕ) (bs : List ℕ) → c < 128 → IsAscii bs → IsAscii (c ∷ bs)
behind c bs here there zero = here
behind c bs here there (suc i) = there i

tested : (bs : List ℕ) → list_all (λ c. nat_lt c 128) bs ≡ true → IsAscii bs
tested [] all = IsAscii-nil
tested (c ∷ cs) all = let h = both (nat_lt c 128) (list_all (λ c. nat_lt c 128) cs) all in behind c cs (grind (arith, h.0)) (tested cs h.1)

fits : (kind : NumberKind) (n : ℕ) → InRange kind (pos n) → n < 2 ^ 64
fits an_integer n h = omega (arith, h)
fits an_object n h = omega (arith, h)

fits_negative : (kind : NumberKind) (n : ℕ) → InRange kind (negsuc n) → suc n < 2 ^ 64
fits_negative an_integer n h = omega (arith, h)
fits_negative an_object n h = omega (arith, h)

number_ascii : (kind : NumberKind) (n : ℤ) → InRange kind n → IsAscii (signed_decimal n)
number_ascii kind (pos n) h = IsAscii-decimal n (fits kind n h)
number_ascii kind (negsuc n) h = behind 45 _ (omega arith) (IsAscii-decimal (suc n) (fits_negative kind n h))

allowed_below : (c : ℕ) → is_allowed c ≡ true → c < 128
allowed_below c h = grind (arith, h)

bytes_ascii : (s : List ℕ) → list_all is_allowed s ≡ true → IsAscii s
bytes_ascii [] all = IsAscii-nil
bytes_ascii (c ∷ s) all = let h = both (is_allowed c) (list_all is_allowed s) all in behind c s (allowed_below c h.0) (bytes_ascii s h.1)

escape_ascii : (c : ℕ) → c < 128 → IsAscii (escape c)
escape_ascii c h =
    elim ((c == 34) || (c == 92)) as (λ b. IsAscii (if b then 92 ∷ c ∷ [] else c ∷ [])) [
      | true ↦ behind 92 (c ∷ []) (omega arith) (behind c [] h IsAscii-nil)
      | false ↦ behind c [] h IsAscii-nil
    ]

escaped_ascii : (s : List ℕ) → list_all is_allowed s ≡ true → IsAscii (flat_map escape s)
escaped_ascii [] all = IsAscii-nil
escaped_ascii (c ∷ s) all =
    let h = both (is_allowed c) (list_all is_allowed s) all in
    IsAscii-append (escape c) (flat_map escape s) (escape_ascii c (allowed_below c h.0)) (escaped_ascii s h.1)

string_ascii : (s : List ℕ) → IsText s → IsAscii (print_string s)
string_ascii s text =
    behind 34 _ (omega arith) (IsAscii-append (flat_map escape s) (34 ∷ []) (escaped_ascii s text.allowed) (tested (34 ∷ []) refl))

name_ascii : (e : Code) → IsAscii (name e)
name_ascii None = tested (name None) refl
name_ascii «Type» = tested (name «Type») refl
name_ascii Division = tested (name Division) refl
name_ascii Permission = tested (name Permission) refl
name_ascii PropertyNotFound = tested (name PropertyNotFound) refl
name_ascii VerbNotFound = tested (name VerbNotFound) refl
name_ascii VariableNotFound = tested (name VariableNotFound) refl
name_ascii InvalidIndirection = tested (name InvalidIndirection) refl
name_ascii RecursiveMove = tested (name RecursiveMove) refl
name_ascii MaxRecursion = tested (name MaxRecursion) refl
name_ascii Range = tested (name Range) refl
name_ascii Arguments = tested (name Arguments) refl
name_ascii NotAccepted = tested (name NotAccepted) refl
name_ascii InvalidArgument = tested (name InvalidArgument) refl
name_ascii Quota = tested (name Quota) refl
name_ascii Float = tested (name Float) refl

comma_ascii : (first : Bool) → IsAscii (print_comma first)
comma_ascii true = IsAscii-nil
comma_ascii false = tested (44 ∷ 32 ∷ []) refl

items_ascii : (first : Bool) (vs : Values) → HoldInside InRange IsText vs → IsAscii (print_items first vs)
items_ascii first no_values h = tested (125 ∷ []) refl
items_ascii first (int n vs) h = IsAscii-append _ _ (comma_ascii first) (IsAscii-append _ _ (number_ascii an_integer n h.0) (items_ascii false vs h.1))
items_ascii first (object n vs) h = IsAscii-append _ _ (comma_ascii first) (IsAscii-append (35 ∷ signed_decimal n) _ (behind 35 _ (omega arith) (number_ascii an_object n h.0)) (items_ascii false vs h.1))
items_ascii first (string s vs) h = IsAscii-append _ _ (comma_ascii first) (IsAscii-append (print_string s) _ (string_ascii s h.0) (items_ascii false vs h.1))
items_ascii first (error e vs) h = IsAscii-append _ _ (comma_ascii first) (IsAscii-append (name e) _ (name_ascii e) (items_ascii false vs h))
items_ascii first (list us vs) h = IsAscii-append _ _ (comma_ascii first) (IsAscii-append (123 ∷ print_items true us) _ (behind 123 _ (omega arith) (items_ascii true us h.0)) (items_ascii false vs h.1))

value_ascii : (v : Value) → HoldIn InRange IsText v → IsAscii (print v)
value_ascii (Int n) h = number_ascii an_integer n h
value_ascii (Obj o) h = behind 35 _ (omega arith) (number_ascii an_object o.0 h)
value_ascii (Str s) h = string_ascii s h
value_ascii (Error e) h = name_ascii e
value_ascii (a_list vs) h = behind 123 _ (omega arith) (items_ascii true vs h)

-- a printed literal is a text of characters
pub print_utf8 : (v : Value) → HoldIn InRange IsText v → IsUtf8 (print v)
print_utf8 v h = IsUtf8-from_ascii (print v) (value_ascii v h)

-- and so is a string
pub text_utf8 : (s : List ℕ) → IsText s → IsUtf8 s
text_utf8 s h = IsUtf8-from_ascii s (bytes_ascii s h.allowed)
