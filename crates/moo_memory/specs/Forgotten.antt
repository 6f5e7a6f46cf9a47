-- What maps keep of links, definers and names, and what is forgotten of it.
use Rattle.std.specs.{Prelude.{◌≡◌, ◌⊎◌, ◌↔◌, Bool, true, false, Option, Some, is_some, option_map, ⊤}, BTreeMap.{BTreeMap}}
use Rattle.std.specs.{FinMap.{FinMap, get}, declared.cmp.Ordering.{Ordering}}
use Rattle.moo_value.specs.declared.value.ObjNo.{ObjNo}
use Rattle.moo_rows.specs.{declared.row.Link.{Link}, declared.row.PropId.{PropId}, declared.row.PropRow.{PropRow}, declared.row.Ties.{Ties}}
use Rattle.moo_rows.specs.{declared.row.ObjRow.{ObjRow}, Links.{LinkSets, has_link, is_kept, is_to_nothing, may_have, row_has, ties_have}}
use Rattle.moo_rows.specs.Ordered.{contents}

-- the map has the key
abbrev pub has_key : {K X : Type 0} (cmp : K → K → Ordering) → BTreeMap K X → K → Bool
has_key cmp rows key = is_some (get (contents cmp rows) key)

-- each object that might have a link still may; only this object may have lost links, but none that goes with the ties that stay
abbrev pub ForgetsOnly : ObjNo → Option Ties → LinkSets → LinkSets → Type 0
ForgetsOnly key stays old new =
    (link : Link) (x : ObjNo) → (x ≡ key → ties_have link stays ≡ true) → may_have new link x ≡ false → may_have old link x ≡ false

-- each object that is kept for a link has it, and none is kept for a link to nothing
abbrev pub KeepsNoOther : (ObjNo → Option ObjRow) → LinkSets → Type 0
KeepsNoOther row_at sets =
    (link : Link) (x : ObjNo) → is_kept sets link x ≡ true → (is_to_nothing link ≡ false) × (row_has link (row_at x) ≡ true)

-- no object is kept for a link that wasn't, but for this object and the links that go with its ties, those to nothing aside
abbrev pub AddsOnly : ObjNo → Ties → LinkSets → LinkSets → Type 0
AddsOnly key ties old new =
    (link : Link) (x : ObjNo) → is_kept new link x ≡ true →
    (is_kept old link x ≡ true) ⊎ ((x ≡ key) × ((is_to_nothing link ≡ false) × (has_link link ties ≡ true)))

-- no object is kept for a link that wasn't; and this one for no link that went with its old ties, unless it goes with those that stay
abbrev pub Forgets : ObjNo → (was stays : Option Ties) → LinkSets → LinkSets → Type 0
Forgets key was stays old new =
    (link : Link) (x : ObjNo) → is_kept new link x ≡ true →
    (is_kept old link x ≡ true)
    × (x ≡ key → is_to_nothing link ≡ false → ties_have link was ≡ true → ties_have link stays ≡ true)

-- ---- properties, kept by their definers and by their tags

-- a property is kept for a key exactly if its row has the key
abbrev pub AreKeysOf : {K : Type 0} {cmp : K × PropId → K × PropId → Ordering} → (PropRow → K) → (PropId → Option PropRow) → FinMap cmp ⊤ → Type 0
AreKeysOf of row_at kept = (k : _) (id : PropId) → (is_some (get kept (k, id)) ≡ true) ↔ (option_map of (row_at id) ≡ Some k)

-- all that was kept still is, and nothing else but perhaps this key
abbrev pub AddsAtMost : {K : Type 0} {cmp : K → K → Ordering} → K → FinMap cmp ⊤ → FinMap cmp ⊤ → Type 0
AddsAtMost one old new = (k : _) → (is_some (get new k) ≡ true → (is_some (get old k) ≡ true) ⊎ (k ≡ one)) × (is_some (get old k) ≡ true → is_some (get new k) ≡ true)

-- the property is kept no longer for the key that it had, unless that key stays; all else that was kept still is
abbrev pub ForgetsKey : {K : Type 0} {cmp : K × PropId → K × PropId → Ordering} → PropId → (was stays : Option K) → FinMap cmp ⊤ → FinMap cmp ⊤ → Type 0
ForgetsKey key was stays old new =
    (k : _) (id : PropId) →
    (is_some (get new (k, id)) ≡ true) ↔ ((is_some (get old (k, id)) ≡ true) × (id ≡ key → was ≡ Some k → stays ≡ Some k))
