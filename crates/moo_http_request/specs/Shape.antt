-- The shape of a body: who asks, the texts of the calls, and the number that the batch is for.
use Rattle.std.specs.Prelude.{ℕ, ◌^◌, ◌&&◌, List, [], ◌∷◌, Bool, Option, Some, None, if◌then◌else◌, nat_lt, nat_le, length, codes}
use Rattle.std.specs.{Prelude.{option_and_then, option_map, is_some}, List.{list_all}}
use Rattle.serde_json.specs.{Data.{Data, Items, no_items, item}, Find.{get, as_str, as_array, as_null, as_number, as_u64}}
use Rattle.moo_value.specs.declared.value.ObjNo.{ObjNo}
use Rattle.moo_text.specs.{LineReading.{object_of}, declared.line.TheConstants.{LONGEST_LINE}}
use Rattle.moo_world.specs.declared.call.TheConstants.{MOST_CALLS}

-- who asks, the texts of the calls, and the number that they are meant for, if the body states one
pub record Shape : Type 0 where
  pub programmer : ObjNo
  pub calls : List (List ℕ)
  pub at : Option ℕ

-- the texts of an array of strings
abbrev pub texts_of : Items → Option (List (List ℕ))
texts_of no_items = Some []
texts_of (item d ds) = option_and_then (λ text. option_map (λ texts. text ∷ texts) (texts_of ds)) (as_str d)

-- at most 1,000 texts, each of at most 262,144 bytes
abbrev pub are_within : List (List ℕ) → Bool
are_within texts = nat_le (length texts) MOST_CALLS && list_all (λ text. nat_le (length text) LONGEST_LINE) texts

-- a number that was written in digits alone, if it is below 2^63
abbrev pub seq_of : Option ℕ → Option (Option ℕ)
seq_of None = None
seq_of (Some n) = if nat_lt n (2 ^ 63) then Some (Some n) else None

-- the number under the key `at`, and no number if the key is absent or null; None if it has another value
abbrev pub stated_at : Option Data → Option (Option ℕ)
stated_at None = Some None
stated_at (Some d) = if is_some (as_null d) then Some None else seq_of (option_and_then as_u64 (as_number d))

-- the shape that the three parts make, if the body has each of them and the texts are within the limits
abbrev pub shape_from : Option ObjNo → Option (List (List ℕ)) → Option (Option ℕ) → Option Shape
shape_from (Some programmer) (Some calls) (Some at) =
    if are_within calls then Some (record { programmer = programmer; calls = calls; at = at }) else None
shape_from programmer calls at = None

-- the shape that the JSON has
abbrev pub shape_of : Data → Option Shape
shape_of d = shape_from
    (option_and_then object_of (option_and_then as_str (get (codes "as") d)))
    (option_and_then texts_of (option_and_then as_array (get (codes "calls") d)))
    (stated_at (get (codes "at") d))
