-- What the rows' look-ups say of the world that they show.
use Rattle.moo_world.{proofs.Words.{arith, ◌≡◌, Bool, false, [], ◌∷◌, sym, ap, Some, None, is_some, unwrap_or, option_map, ObjNo, ObjRow, WorldObject, IsTree, is_object, row_passes, chain, LookUps, world_shown, object_shown}, proofs.Ancestry.Trees.{chain-step, chain_of_none}}

pub object_seen : (m : LookUps) (x : ObjNo) (row : ObjRow) → m.object x ≡ Some row → (world_shown m).object x ≡ Some (object_shown m x row)
unfolding world_shown
object_seen m x row e = ap (option_map (object_shown m x)) e

pub no_object_seen : (m : LookUps) (x : ObjNo) → m.object x ≡ None → is_object (world_shown m) x ≡ false
unfolding world_shown
no_object_seen m x e = ap (λ o. is_some (option_map (object_shown m x) o)) e

-- one step up, by the row
pub chain_of_row : (m : LookUps) → IsTree (world_shown m) → (x : ObjNo) (row : ObjRow) → Some row ≡ m.object x → chain (world_shown m) x ≡ x ∷ chain (world_shown m) row.parent
chain_of_row m t x row e = chain-step (world_shown m) t x (object_shown m x row) (object_seen m x row (sym e))

pub chain_of_no_row : (m : LookUps) (x : ObjNo) → None ≡ m.object x → chain (world_shown m) x ≡ []
chain_of_no_row m x e = chain_of_none (world_shown m) x (no_object_seen m x (sym e))

-- ---- an object's row

pub is_object_seen : (m : LookUps) (x : ObjNo) → is_object (world_shown m) x ≡ is_some (m.object x)
unfolding world_shown
is_object_seen m x = grind arith

pub passes_seen : (test : ObjRow → Bool) (m : LookUps) (x : ObjNo) (row : ObjRow) → Some row ≡ m.object x → row_passes test (world_shown m) x ≡ test row
unfolding world_shown
passes_seen test m x row e = ap (λ o. unwrap_or (option_map test (option_map (λ (r : WorldObject). r.row) (option_map (object_shown m x) o))) false) (sym e)

pub none_passes : (test : ObjRow → Bool) (m : LookUps) (x : ObjNo) → None ≡ m.object x → row_passes test (world_shown m) x ≡ false
unfolding world_shown
none_passes test m x e = ap (λ o. unwrap_or (option_map test (option_map (λ (r : WorldObject). r.row) (option_map (object_shown m x) o))) false) (sym e)
