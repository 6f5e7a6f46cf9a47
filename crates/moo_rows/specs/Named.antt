-- Properties by their definer and their name, ASCII case aside.
use Rattle.std.specs.Prelude.{◌≡◌, ℕ, Bool, true, false, ◌&&◌, List, [], ◌∷◌, map, nat_eq, ⊤, Option, Some, is_some, unwrap_or, option_map}
use Rattle.std.specs.{Char.{to_ascii_lowercase}, Cmp.Lexicographic.{pointwise}, FinMap.{FinMap, get}}
use Rattle.std.specs.Hash.DefaultHasher as sip
use Rattle.std.specs.{List.{fold}, Ordering.{int_eq, nat_cmp, ordering_then}, declared.cmp.Ordering.{Ordering}}
use Rattle.moo_value.specs.declared.value.ObjNo.{ObjNo}
use Rattle.moo_rows.specs.{declared.row.PropId.{PropId}, declared.row.PropRow.{PropRow}, Maps.{Maps, object_cmp, prop_cmp}}

-- a name with its ASCII letters in lower case
abbrev pub in_lower_case : List ℕ → List ℕ
in_lower_case name = map to_ascii_lowercase name

-- two names are equal but for ASCII case
abbrev pub is_alike : List ℕ → List ℕ → Bool
is_alike first second = pointwise nat_eq (in_lower_case first) (in_lower_case second)

-- whether there is a row, and x defines it under the name
abbrev pub row_named : ObjNo → List ℕ → Option PropRow → Bool
row_named x name row = unwrap_or (option_map (λ r. int_eq r.definer.0 x.0 && is_alike r.name name) row) false

-- x defines the property under the name
abbrev pub is_named_by : Maps → ObjNo → List ℕ → PropId → Bool
is_named_by maps x name id = row_named x name (get maps.props id)

-- the hash of a name: SipHash-1-3 with both keys 0, of the name in lower case, so that names that are alike have one hash
unfoldable pub name_hash : List ℕ → ℕ
name_hash name = sip.finish (fold (λ state byte. sip.write state (byte ∷ [])) sip.initial (in_lower_case name))

-- a tag, by which properties are looked up: a definer and the hash of a name
abbrev pub Tag : Type 0
Tag = ObjNo × ℕ

-- the tag of a property: its definer and the hash of its name
abbrev pub tag_of : PropRow → Tag
tag_of row = (row.definer, name_hash row.name)

-- tags by definer, and then by hash
abbrev pub tag_cmp : Tag → Tag → Ordering
tag_cmp a b = ordering_then (object_cmp a.0 b.0) (nat_cmp a.1 b.1)

-- properties by tag, and then by number
abbrev pub named_cmp : Tag × PropId → Tag × PropId → Ordering
named_cmp a b = ordering_then (tag_cmp a.0 b.0) (prop_cmp a.1 b.1)

-- each property is among those that are kept for its definer and the hash of its name
abbrev pub AreByName : (PropId → Option PropRow) → FinMap named_cmp ⊤ → Type 0
AreByName row_at names = (id : PropId) (row : PropRow) → row_at id ≡ Some row → is_some (get names (tag_of row, id)) ≡ true
