-- Names that stand once on an object.
use Rattle.std.specs.{Prelude.{◌≡◌, ◌<◌, ℕ, Bool, true, Option, None, Some, nat_eq, if◌then◌else◌}, BTreeMap.{BTreeMap}}
use Rattle.std.specs.{FinMap.{FinMap, get}, Global.{Vec}, Map.{lookup}}
use Rattle.moo_value.specs.declared.value.ObjNo.{ObjNo}
use Rattle.moo_rows.specs.{declared.row.PropId.{PropId}, declared.row.PropRow.{PropRow}, Maps.{Maps, object_cmp}}
use Rattle.moo_world.specs.Objects.{Name, same_text, folded}
use Rattle.moo_damage.specs.Local.{has_slot}

-- no two properties of which x has slots have one name
abbrev pub NamesApart : Maps → ObjNo → Type 0
NamesApart m x =
    (i j : PropId) (p q : PropRow) → get m.props i ≡ Some p → get m.props j ≡ Some q → 0 < i.0 → 0 < j.0 →
    has_slot m x i ≡ true → has_slot m x j ≡ true → folded p.name ≡ folded q.name → i ≡ j

-- on each of these objects no two properties have one name
abbrev pub AreApart : Maps → FinMap object_cmp (Unit {0}) → Type 0
AreApart m known = (x : ObjNo) → get known x ≡ Some tt → NamesApart m x

-- no two properties have one name on an object that defines one
abbrev pub DefinersApart : Maps → Type 0
DefinersApart m = (id : PropId) (p : PropRow) → get m.props id ≡ Some p → NamesApart m p.definer

-- ---- properties noted under their folded names

-- properties by folded names
abbrev pub Noted : Type 0
Noted = BTreeMap (Vec ℕ) PropId

-- the property that is noted under a name
abbrev pub noted_as : Noted → Name → Option PropId
noted_as noted n = lookup (λ k. same_text n k.items) noted.entries

-- no property is noted there but this one
abbrev pub is_alone : Option PropId → PropId → Bool
is_alone None id = true
is_alone (Some other) id = nat_eq other.0 id.0

-- under this name the property is noted now, and under each other name the one that was
abbrev pub NotesName : Name → PropId → (old new : Noted) → Type 0
NotesName name id old new = (n : Name) → noted_as new n ≡ (if same_text n (folded name) then Some id else noted_as old n)

-- the property, if there is one, is noted under its name
abbrev pub NotesProp : Option PropRow → PropId → (old new : Noted) → Bool → Type 0
NotesProp None id old new alone = (new ≡ old) × (alone ≡ true)
NotesProp (Some p) id old new alone =
    NotesName p.name id old new × (alone ≡ is_alone (noted_as old (folded p.name)) id)
