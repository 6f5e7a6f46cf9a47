-- The slots that the lines of a dump put, by the numbers of their properties.
use Rattle.std.specs.{Prelude.{◌≡◌, ◌&&◌, negsuc, Some, if◌then◌else◌}, FinMap.{get, insert}, Ordering.{int_eq}}
use Rattle.moo_value.specs.declared.value.ObjNo.{ObjNo}
use Rattle.moo_rows.specs.{declared.row.PropId.{PropId}, Links.{IsFirst, is_definer}, Maps.{Maps, prop_cmp}}
use Rattle.moo_world.specs.Objects.{Property}
use Rattle.moo_load.specs.{declared.taking.LastSlot.{LastSlot}, Entries.{Entry, a_slot}, RowsOf.{property_row, dumped_slot}}

-- the slot that was put last, before any is: on no object
abbrev pub no_slot : LastSlot
no_slot = record { object = record { 0 = negsuc 0 }; definer = record { 0 = negsuc 0 }; id = record { 0 = 0 } }

-- the number of the property whose slot was put last, if that was a slot on x of a property of the definer; else 0
abbrev pub number_before : LastSlot → ObjNo → ObjNo → PropId
number_before last x definer = if int_eq last.object.0 x.0 && int_eq last.definer.0 definer.0 then last.id else record { 0 = 0 }

-- the property has this number, and is the next one of its definer after the slot that was put last
pub record IsNextProperty (m : Maps) (last : LastSlot) (x : ObjNo) (p : Property) (id : PropId) : Type 0 where
  pub next : IsFirst prop_cmp (is_definer m p.0) (number_before last x p.0) (Some id)
  pub row : get m.props id ≡ Some (property_row p)

-- the property of a slot is the next one of its definer, if its line comes now
abbrev pub SlotIsNext : (Property → PropId) → Entry → LastSlot × Maps → Type 0
SlotIsNext number (a_slot x p k) t = IsNextProperty t.1 t.0 x p (number p)
SlotIsNext number e t = Unit {0}

-- after the line of an entry: the slot that was put last, and the maps with the slot of the line put
abbrev pub slot_line_put : (Property → PropId) → Entry → LastSlot × Maps → LastSlot × Maps
slot_line_put number (a_slot x p k) t =
    (record { object = x; definer = p.0; id = number p }, record (t.1) { slots = insert t.1.slots (x, number p) (dumped_slot k) })
slot_line_put number e t = t
