-- What the limits of a well formed world say of numbers, of an object's row and of a fresh slot.
use Rattle.moo_world.{proofs.Words.{◌≡◌, true, ◌||◌, sym, ◌∙◌, ap, Option, Some, None, FitsSigned, w32, arith, ◌&&◌, unwrap_or, option_map, and_parts, or_cases, ObjNo, IsText, VerbRow, is_number, nothing, same_object, same_object-Decides, World, WorldObject, Slot, IsWellFormed, KeepsLimits, is_object, owner_of, fresh, has_word, row_fits, verb_fits, slot_fits, state_fits, with_slots, without_slots, both_true}, proofs.Form.Ranges.{range_of, text_of}}

-- the number of an object has 32 bits
pub object_numbered : (w : World) → IsWellFormed w → (x : ObjNo) → is_object w x ≡ true → is_number x ≡ true
object_numbered w wf x o = grind arith

-- and so has what is an object or nothing
pub known_numbered : (w : World) → IsWellFormed w → (x : ObjNo) → (is_object w x || same_object nothing x) ≡ true → is_number x ≡ true
known_numbered w wf x known = grind (arith, or_cases, object_numbered, same_object-Decides)

-- the row of an object fits
pub row_fitting : (w : World) → KeepsLimits (without_slots w) → (x : ObjNo) (r : WorldObject) → w.object x ≡ Some r → row_fits r.row ≡ true
row_fitting w limits x r e = sym (ap (λ (o : Option WorldObject). unwrap_or (option_map row_fits (option_map (λ k. k.row) (option_map (with_slots (λ n. None)) o))) true) e) ∙ limits.rows x

-- the owner of an object has a number of 32 bits
pub owner_numbered : (w : World) → KeepsLimits (without_slots w) → (x : ObjNo) → is_number (owner_of w x) ≡ true
owner_numbered w limits x = grind arith

pub slot_owner : (s : Slot) → slot_fits s ≡ true → is_number s.owner ≡ true
slot_owner s f = (and_parts (is_number s.owner) (state_fits s.state) f).0

pub slot_state : (s : Slot) → slot_fits s ≡ true → state_fits s.state ≡ true
slot_state s f = (and_parts (is_number s.owner) (state_fits s.state) f).1

pub slot_within : (s : Slot) → is_number s.owner ≡ true → state_fits s.state ≡ true → slot_fits s ≡ true
slot_within s n f = λ i. n i && f i

-- a slot that is fresh from one that fits
pub fresh_fits : (owner : ObjNo) (s : Slot) → is_number owner ≡ true → slot_fits s ≡ true → slot_fits (fresh owner s) ≡ true
fresh_fits owner s o f = grind arith

-- ---- what the types keep

pub number_within : (x : ObjNo) → FitsSigned w32 x.0 → is_number x ≡ true
number_within x f = range_of x.0 f

-- a verb whose names are a text, with an owner of 32 bits
pub verb_within : (v : VerbRow) → has_word v.names ≡ true → IsText v.names → FitsSigned w32 v.owner.0 → verb_fits v ≡ true
verb_within v word text number = both_true word (both_true (text_of v.names text) (range_of v.owner.0 number))
