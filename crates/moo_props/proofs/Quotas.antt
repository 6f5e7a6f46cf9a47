-- What an object reads as its quota.
use Rattle.moo_props.proofs.Words.{arith, ◌≡◌, Option, Some, None, refl, sym, ap, ◌∙◌, is_some, ◌+ℤ◌, ObjNo, Value, Int, PropId, Set, Maps, with_slot_of, Name, folded, quota_in, quota_of, World, WorldObject, IsTree, read_in, read_along, read_of, slot_of, chain-step, chain_of_none, name_of, spelling_of}
use Rattle.std.proofs.Common.{ℤ}
use Rattle.moo_world.specs.Quota.{quota_name, quota_changed}

-- without a slot nothing is read
pub nothing_read : (w : World) → IsTree w → (x : ObjNo) (n : Name) → slot_of w x n ≡ None → read_of w x n ≡ None
nothing_read w t x n e = by (w.object x) refl
  where
    by : (o : Option WorldObject) → w.object x ≡ o → read_of w x n ≡ None
    by None h = ap (read_along w n) (chain_of_none w x (ap is_some h))
    by (Some r) h = ap (read_along w n) (chain-step w t x r h) ∙ ap (λ s. read_in s (read_of w r.row.parent n)) e

pub no_quota : (w : World) → IsTree w → (o : ObjNo) → slot_of w o quota_name ≡ None → quota_of w o ≡ None
no_quota w t o e = ap quota_in (nothing_read w t o quota_name e)

pub quota_is : (w : World) (o : ObjNo) (n : Name) (v : Value) → n ≡ quota_name → read_of w o n ≡ Some v → quota_of w o ≡ quota_in (Some v)
quota_is w o n v e h = ap quota_in (ap (read_of w o) (sym e) ∙ h)

-- a value that is no integer is no quota
pub no_integer : (v : Value) → ((k : ℤ) → v ≡ Int k → ⊥) → quota_in (Some v) ≡ None
no_integer v h = grind arith

pub folded_spelling : (m : Maps) (id : PropId) → folded (spelling_of m id) ≡ name_of m id
unfolding folded
folded_spelling m id = grind arith

-- the state set on the slot is the quota moved
pub moved : (w : World) (o : ObjNo) (n : Name) (had by : ℤ) → folded n ≡ quota_name → quota_of w o ≡ Some had → with_slot_of w o n (λ s. record s { state = Set (Int (had +ℤ by)) }) ≡ quota_changed w o by
moved w o n had by e h = grind (arith)
