-- Petitions: calls that one programmer asks a wizard to make. They are this server's own.
use Rattle.std.specs.Prelude.{◌≡◌, ◌≤◌, ◌<◌, ◌+◌, ℕ, nat_lt, nat_le, Bool, true, false, ◌&&◌, List, ◌∷◌, length, Some, is_some}
use Rattle.std.specs.{List.{list_all}, FinMap.{FinMap, get}}
use Rattle.moo_value.specs.{declared.value.Value.{Value}, declared.value.Value.TheVariants.{Str, List as a_list}, Value.{nesting, spread}}
use Rattle.moo_value.specs.Values.{Values}
use Rattle.moo_rows.specs.{declared.row.PetitionId.{PetitionId}, declared.row.PetitionRow.{PetitionRow}, Maps.{petition_cmp}}
use Rattle.moo_world.specs.{Objects.{number_limit}, Arguments.{is_number, all_within_limits}}
use Rattle.moo_world.specs.declared.petition.TheConstants.{MOST_HELD, MOST_NESTING}

-- the first value is a string
abbrev pub begins_with_text : List Value → Bool
begins_with_text (Str text ∷ rest) = true
begins_with_text values = false

-- a list that begins with a string, as a call that is asked for does
abbrev pub is_named : Value → Bool
is_named (a_list values) = begins_with_text (spread values)
is_named other = false

-- 1 to 64 calls
abbrev pub are_few : Values → Bool
are_few calls = nat_lt 0 (length (spread calls)) && nat_le (length (spread calls)) MOST_HELD

-- lists nest at most 30 deep, the list of the calls being the first
abbrev pub are_shallow : Values → Bool
are_shallow calls = nat_le (nesting (a_list calls)) (MOST_NESTING + 1)

-- 1 to 64 calls in at most 30 levels, each a list that begins with a string, with values within their limits; and the number of the
-- programmer who asks has 32 bits
abbrev pub petition_fits : PetitionRow → Bool
petition_fits row = is_number row.who
    && (list_all is_named (spread row.calls) && (are_few row.calls && (are_shallow row.calls && all_within_limits row.calls)))

-- each petition's number is below that of the next, and it holds what petitions may
pub record PetitionsStand (petitions : FinMap petition_cmp PetitionRow) (next : ℕ) : Type 0 where
  pub numbered : (id : PetitionId) → is_some (get petitions id) ≡ true → (0 < id.0) × (id.0 < next)
  pub fit : (id : PetitionId) (row : PetitionRow) → get petitions id ≡ Some row → petition_fits row ≡ true
  pub counter : (0 < next) × (next ≤ number_limit)
