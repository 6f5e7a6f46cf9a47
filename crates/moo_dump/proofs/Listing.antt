-- One more property in the map of lists.
use Rattle.moo_dump.{proofs.Words.{arith, ◌≡◌, Bool, true, false, cond, List, filter, Some, [], ◌∷◌, ◌++◌, refl, sym, ap, ◌∙◌, append-nil, unwrap_or, option_map, is_at, Vec, ObjNo, PropId, object_cmp, same_object, same_object-Decides, ids_listed}, specs.Lines.{ids_defined_by}}
use Rattle.std.{specs.Prelude.{if◌then◌else◌, map}, specs.BTreeMap.{BTreeMap}}
use Rattle.std.specs.BTreeMap as tree
use Rattle.moo_rows.specs.declared.row.PropRow.{PropRow}
use Rattle.moo_world.{proofs.Shown.MapLaws.{object_key}, proofs.Shown.ObjectEntries.{same_object-symm}}

module _ (m n : BTreeMap ObjNo (Vec PropId)) (k : ObjNo) (v : Vec PropId) (id : PropId) where
  -- the list of one object is one longer
  pub listed_more : ((q : ObjNo) → tree.get object_cmp n q ≡ cond (is_at (object_cmp k) q) (Some v) (tree.get object_cmp m q)) → v.items ≡ ids_listed m k ++ id ∷ []
      → (d : ObjNo) → ids_listed n d ≡ ids_listed m d ++ (if same_object k d then id ∷ [] else [])
  listed_more h items d = grind (arith, object_key, same_object-symm, append-nil)

-- one more property, of those that are left
pub defined_more : (d : ObjNo) (id : PropId) (row : PropRow) (left : List (PropId × PropRow)) → ids_defined_by d ((id, row) ∷ left) ≡ (if same_object row.definer d then id ∷ [] else []) ++ ids_defined_by d left
defined_more d id row left = grind arith
