-- Who defines a property that is found by its name.
use Rattle.moo_props.{proofs.Words.{arith, ◌≡◌, true, Some, is_some, get, ObjNo, PropId, Maps, Name, same_object, Slot, slot_of, IsSound, world_of, name_of, defines, some_of}, proofs.Walked.{slot_here}}

-- x defines the property of its slot just where the slot has it as definer
pub definer_found : (t : Maps) → IsSound t → (x : ObjNo) (id : PropId) (n : Name) (s : Slot) → is_some (get t.slots (x, id)) ≡ true → name_of t id ≡ n → Some s ≡ slot_of (world_of t) x n → defines t x id ≡ same_object s.definer x
definer_found t sound x id n s held named shown = grind (arith, some_of, slot_here)
