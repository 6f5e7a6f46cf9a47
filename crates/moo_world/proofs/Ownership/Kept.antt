-- What a change of the world has to keep for nobody's ownership to change.
use Rattle.moo_world.proofs.Words.{arith, ◌≡◌, Bool, true, false, refl, sym, ◌∙◌, ap, Option, Some, unwrap_or, option_map, same_Some, ObjNo, ObjRow, Name, nothing, same_text, folded, same_object-Decides, same_text-Decides, with_slot_of, SameRights, KeepsOwnership, World, WorldObject, Slot, is_object, slot_of, object_changed, rebuilt}

-- whose an object is and what its bits let it do
abbrev pub rank : WorldObject → ObjNo × Bool × Bool × Bool
rank r = (r.row.owner, r.row.player, r.row.programmer, r.row.wizard)

-- whose a slot is
abbrev pub face : Slot → ObjNo × ObjNo
face s = (s.definer, s.owner)

abbrev pub ranked : World → ObjNo → Option (ObjNo × Bool × Bool × Bool)
ranked w y = option_map rank (w.object y)

abbrev pub faced : World → ObjNo → Name → Option (ObjNo × ObjNo)
faced w y n = option_map face (slot_of w y n)

abbrev passes : (ObjRow → Bool) → Option WorldObject → Bool
passes test o = unwrap_or (option_map test (option_map (λ (r : WorldObject). r.row) o)) false

abbrev owner_in : Option WorldObject → ObjNo
owner_in o = unwrap_or (option_map (λ (r : WorldObject). r.row.owner) o) nothing

rights_in : (a b : Option WorldObject) → option_map rank a ≡ option_map rank b → (owner_in a ≡ owner_in b) × (passes (λ r. r.player) a ≡ passes (λ r. r.player) b) × (passes (λ r. r.programmer) a ≡ passes (λ r. r.programmer) b) × (passes (λ r. r.wizard) a ≡ passes (λ r. r.wizard) b)
rights_in a b e = grind arith

pub rights_from : (w next : World) (y : ObjNo) → ranked next y ≡ ranked w y → SameRights w next y
rights_from w next y e = rights_in (next.object y) (w.object y) e

-- what has a slot is an object
pub slotted : (w : World) (y : ObjNo) (n : Name) (s : Slot) → slot_of w y n ≡ Some s → is_object w y ≡ true
slotted w y n s e = grind arith

pub same_owner : (s t : Slot) (o : Option Slot) → o ≡ Some s → o ≡ Some t → t.owner ≡ s.owner
same_owner s t o e f = ap (λ (k : Slot). k.owner) (same_Some t s (sym f ∙ e))

-- the rebuilt world has the rows of the world with other links and definitions
pub ranked_rebuilt : (w s : World) (q y : ObjNo) → ranked (rebuilt w s q) y ≡ ranked s y
unfolding rebuilt
ranked_rebuilt w s q y = grind arith

module _ (w : World) (p : ObjNo) where
  -- what has changed no rank, and no owner of a slot with its definer
  pub from_slots : (v : World) (names : ObjNo → Name → Name) → ((y : ObjNo) → is_object v y ≡ true → ranked v y ≡ ranked w y) → ((y : ObjNo) (n : Name) (s t : Slot) → slot_of w y n ≡ Some s → slot_of v y (names y n) ≡ Some t → s.definer ≡ t.definer → t.owner ≡ s.owner) → KeepsOwnership w v p names
  from_slots v names ranks slots = grind arith

  pub unchanged : KeepsOwnership w w p (λ y n. n)
  unchanged = from_slots w (λ y n. n) (λ y f. refl) (λ y n s t e f d. same_owner s t (slot_of w y n) e f)

  -- a further change of neither ranks nor faces
  pub after : (v next : World) (was now : ObjNo → Name → Name) → ((y : ObjNo) → ranked next y ≡ ranked v y) → ((y : ObjNo) (n : Name) (s : Slot) → slot_of w y n ≡ Some s → faced next y (now y n) ≡ faced v y (was y n)) → KeepsOwnership w v p was → KeepsOwnership w next p now
  after v next was now ranks faces k = grind arith

  -- a change of one record
  pub on_record : (v : World) (x : ObjNo) (change : WorldObject → WorldObject) → ((r : WorldObject) → rank (change r) ≡ rank r) → ((r : WorldObject) (n : Name) → v.object x ≡ Some r → option_map face ((change r).slot n) ≡ option_map face (r.slot n)) → KeepsOwnership w v p (λ y n. n) → KeepsOwnership w (object_changed v x change) p (λ y n. n)
  on_record v x change ranks faces k = grind (arith, after, same_object-Decides)

  -- a change of one slot that keeps its owner
  pub on_slot : (v : World) (x : ObjNo) (m : Name) (change : Slot → Slot) → ((s : Slot) → slot_of v x (folded m) ≡ Some s → face (change s) ≡ face s) → KeepsOwnership w v p (λ y n. n) → KeepsOwnership w (with_slot_of v x m change) p (λ y n. n)
  on_slot v x m change keeps k = grind (arith, on_record, same_text, same_text-Decides)
