-- What each slot and its neighbours must be so that the slots are just those that are owed.
use Rattle.std.specs.{Prelude.{◌≡◌, ◌<◌, Bool, true, false, not, ◌||◌, Some, is_some, unwrap_or}, Option.{option_map}, List.{list_any}}
use Rattle.std.specs.FinMap.{get}
use Rattle.moo_value.specs.declared.value.ObjNo.{ObjNo}
use Rattle.moo_rows.specs.{declared.row.ObjRow.{ObjRow}, declared.row.PropId.{PropId}, declared.row.PropRow.{PropRow}}
use Rattle.moo_rows.specs.{declared.row.SlotRow.{SlotRow}, Maps.{Maps}, Walk.{slots_of_left}}
use Rattle.moo_world.specs.{Objects.{folded}, Rows.{world_of}, World.{IsTree}}
use Rattle.moo_props.specs.Names.{defines}
use Rattle.moo_damage.specs.Damage.{lacks_definer, is_double, is_strange, is_missing}

-- no name is double, no slot is strange and none is missing; so the slots are just those that objects are owed
pub record SlotsHold (m : Maps) : Type 0 where
  pub names : (id : PropId) (p : PropRow) → get m.props id ≡ Some p → is_double m id p ≡ false
  pub owed : (key : ObjNo × PropId) (s : SlotRow) → get m.slots key ≡ Some s → is_strange m key ≡ false
  pub there : (x : ObjNo) (row : ObjRow) → get m.objects x ≡ Some row →
      (id : PropId) (p : PropRow) → get m.props id ≡ Some p → is_missing m (x, id) ≡ false

-- the object has a slot of the property
abbrev pub has_slot : Maps → ObjNo → PropId → Bool
has_slot m x id = is_some (get m.slots (x, id))

-- a slot is on an object that defines its property, or whose parent has a slot of it
abbrev pub comes_down : Maps → ObjNo × PropId → Bool
comes_down m key = unwrap_or (option_map (λ row. defines m key.0 key.1 || has_slot m row.parent key.1) (get m.objects key.0)) false

-- y has a slot of a property that x has no slot of
abbrev pub lacks_slot_of : Maps → ObjNo → ObjNo → Bool
lacks_slot_of m x y = list_any (λ e. not (has_slot m x e.0.1)) (slots_of_left y (record { 0 = 0 }) m)

-- each row and its neighbours are right: definers have slots of their properties, each slot comes down to its object, an object has
-- what its parent has, and a definer has no slot of another property of the same name
pub record AreLocal (m : Maps) : Type 0 where
  pub numbered : (id : PropId) (p : PropRow) → get m.props id ≡ Some p → 0 < id.0
  pub own : (id : PropId) (p : PropRow) → get m.props id ≡ Some p → has_slot m p.definer id ≡ true
  pub from : (key : ObjNo × PropId) (s : SlotRow) → get m.slots key ≡ Some s → comes_down m key ≡ true
  pub down : (x : ObjNo) (row : ObjRow) → get m.objects x ≡ Some row →
      (id : PropId) → 0 < id.0 → has_slot m row.parent id ≡ true → has_slot m x id ≡ true
  pub apart : (i j : PropId) (p q : PropRow) → get m.props i ≡ Some p → get m.props j ≡ Some q →
      has_slot m p.definer j ≡ true → folded p.name ≡ folded q.name → i ≡ j

-- if each row and its neighbours are right, and chains end, the slots are just those that are owed, and no name is double
abbrev pub LocalSlotsHold : Type 0
LocalSlotsHold = (m : Maps) → IsTree (world_of m) → AreLocal m → SlotsHold m

-- if chains end, properties are numbered from 1, definers are objects, the slots are just those that are owed, and no name is double,
-- each row and its neighbours are right
abbrev pub HeldSlotsAreLocal : Type 0
HeldSlotsAreLocal =
    (m : Maps) → IsTree (world_of m) → ((id : PropId) (p : PropRow) → get m.props id ≡ Some p → 0 < id.0)
    → ((id : PropId) (p : PropRow) → get m.props id ≡ Some p → lacks_definer m p ≡ false) → SlotsHold m → AreLocal m
