-- What is read: the relation and the list agree.
use Rattle.moo_world.{proofs.Lemmas.{arith, ◌≡◌, List, [], ◌∷◌, Option, Some, option_and_then, none-some, ObjNo, Value, Name, World, WorldObject, Slot, IsTree, Chain, Reads, above, slot_of, read_in, read_along, read_of, chain-step}, specs.World.{here}}

-- what is read along a chain is what the relation says
pub Reads-from_along : (w : World) (n : Name) (l : List ObjNo) (x : ObjNo) (v : Value) → Chain w x l → read_along w n l ≡ Some v → Reads w n x v
Reads-from_along w n [] x v p e = absurd (none-some v e)
Reads-from_along w n (y ∷ l) x v p e = grind (arith, Reads-from_along w n l p.1 v p.3, above, here)

slotted : (o : Option WorldObject) (n : Name) (k : Slot) → option_and_then (λ r. r.slot n) o ≡ Some k → (r : WorldObject) × (o ≡ Some r)
slotted o n k e = grind arith

-- one object's part of what is read
pub read_step : (w : World) (t : IsTree w) (n : Name) (x : ObjNo) (k : Slot) → slot_of w x n ≡ Some k → (r : WorldObject) × (w.object x ≡ Some r) × (read_of w x n ≡ read_in (Some k) (read_of w r.row.parent n))
read_step w t n x k e = grind (arith, slotted, chain-step, read_of)

pub along_from_Reads : (w : World) (t : IsTree w) (n : Name) (x : ObjNo) (v : Value) → Reads w n x v → read_of w x n ≡ Some v
along_from_Reads w t n x v (here {slot = k} e f) = grind (arith, read_step, read_of)
along_from_Reads w t n x v (above {parent = q} {slot = k} e f g b) = grind (arith, along_from_Reads w t n q v b, read_step, read_of)
