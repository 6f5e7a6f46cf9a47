-- Objects whose chains are known to end, and the first whose chain doesn't.
use Rattle.std.specs.{Prelude.{◌≡◌, List, Option, Some}, List.{AllByRecursion}, FinMap.{FinMap, get}}
use Rattle.moo_value.specs.declared.value.ObjNo.{ObjNo}
use Rattle.moo_rows.specs.Maps.{Maps, object_cmp}
use Rattle.moo_damage.specs.{declared.trees.TreeLink.{TreeLink}, Damage.{HasEnd, Loops}, First.{IsLeastBad}}

-- the chains of the objects that are known end
abbrev pub AreEnding : TreeLink → Maps → FinMap object_cmp (Unit {0}) → Type 0
AreEnding link m known = (x : ObjNo) → get known x ≡ Some tt → HasEnd link m x

-- the chain of each object of a path ends
abbrev pub AllEnd : TreeLink → Maps → List ObjNo → Type 0
AllEnd link m path = AllByRecursion (HasEnd link m) path

-- of any link, in any rows: if the chains of the path and of the objects known before end, those of all objects known afterwards do
abbrev pub NotesEnding : List ObjNo → (old new : FinMap object_cmp (Unit {0})) → Type 0
NotesEnding path old new = (link : TreeLink) (m : Maps) → AllEnd link m path → AreEnding link m old → AreEnding link m new

-- the least object whose chain doesn't end, or None if each ends
abbrev pub IsFirstLoop : TreeLink → Maps → Option ObjNo → Type 0
IsFirstLoop link m o = IsLeastBad m.objects (λ x _. HasEnd link m x) (λ x _. Loops link m x) o
