use Rattle.moo_tree.proofs.Words.{◌≡◌, ◌||◌, ◌∷◌, Bool, false, cond, Option, Some, List, length, ap, ◌∙◌, arith, is_some, FinMap, get, insert, get-insert, get-empty, from_entries, ObjNo, object_cmp, object_total, is_among, world_of, chain, chain_of_row, chain_of_no_row, look_ups}
use Rattle.moo_world.{specs.Objects.{same_object, same_object-eq}, proofs.Shown.MapLaws.{object_key}}
use Rattle.moo_tree.proofs.ancestors.chain_keys.Goals as goal

-- a key that was put stands for its object in the chain
put_key : {X : Type 0} (b r : Bool) (o : Option X) (v : X) → (is_some (cond b (Some v) o) || r) ≡ (is_some o || (b || r))
put_key b r o v = grind arith

or_false : (b : Bool) → b ≡ (b || false)
or_false b = grind arith

turned : (x y : ObjNo) → same_object y x ≡ same_object x y
unfolding same_object
turned x y = same_object-eq x y

is_put : {X : Type 0} (m : FinMap object_cmp X) (at : ObjNo) (v : X) (y : ObjNo) (rest : List ObjNo) → (is_some (get (insert m at v) y) || is_among y rest) ≡ (is_some (get m y) || is_among y (at ∷ rest))
is_put m at v y rest = grind (arith, get-insert, object_total, object_key, turned, put_key)

pub loop-row-init : goal.loop-row-init
loop-row-init g c = λ y. ap (λ o. is_some o || is_among y (chain (world_of (g.R.Rows.held c.args.rows.now).maps) c.args.x)) (ap (λ es. get (from_entries {R = object_cmp} es) y) c.new-keys.ensures.empty ∙ get-empty object_cmp y)

pub loop-row-smaller : goal.loop-row-smaller
loop-row-smaller g c = omega (arith, ap length (chain_of_row (look_ups (g.R.Rows.held c.args.rows.now).maps) c.requires c.loop-row.at c.in-Some.row.now c.in-Some.ensures))

pub loop-row-preserved : goal.loop-row-preserved
loop-row-preserved g c = grind (arith, chain_of_row, is_put)

pub returns : goal.returns
returns g c = grind (arith, chain_of_no_row, or_false)
