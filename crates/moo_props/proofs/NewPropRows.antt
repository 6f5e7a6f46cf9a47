-- The rows once a property is defined, by their look-ups.
use Rattle.moo_props.{proofs.Words.{arith, ◌≡◌, ℕ, ◌+◌, Bool, true, cond, eqb, Option, Some, [], ◌∷◌, refl, ap, ◌∙◌, ◌&&◌, if◌then◌else◌, unsigned_tied, get, insert, get-insert, ObjNo, PropId, SlotRow, Maps, Held, wrote, prop_total, slot_total, Name, same_object, is_among, same_object-Decides, IsTree, is_object, chain, owner_of, LookUps, look_ups, world_of, prop_id, Origin, with_definition, owners_under, fresh_of, slots_moved}, proofs.Shared.{key_parts, own_among, same_maps}, proofs.Moved.{keeps-moved, slots_of_moved}, proofs.NewProp.{with_property}}

module _ (t : Maps) (tree : IsTree (world_of t)) (x : ObjNo) (xo : is_object (world_of t) x ≡ true) (name : Name) (row : SlotRow) (id : PropId) (numbered : id.0 ≡ t.head.next_prop) (held : Held) (same : held.maps ≡ t) where
  abbrev m : LookUps
  m = look_ups t

  abbrev o : Origin
  o = record { id = prop_id t.head.next_prop; owner = row.owner; bits = row.bits }

  abbrev pub held1 : Held
  held1 = slots_moved (λ y. []) (o ∷ []) (owners_under t x) (with_definition x name held)

  abbrev pub held2 : Held
  held2 = wrote held1 (record (held1.maps) { slots = insert held1.maps.slots (x, prop_id t.head.next_prop) row })

  slots2 : (y : ObjNo) (j : ℕ) → get held2.maps.slots (y, prop_id j) ≡ (with_property m x name row).slot y j
  slots2 y j = grind (arith, get-insert, slot_total, key_parts, slots_of_moved, unsigned_tied, own_among)

  -- all but the slots
  pub only2 : held2.maps ≡ record t { head = record (t.head) { next_prop = t.head.next_prop + 1 }; props = insert t.props (prop_id t.head.next_prop) (record { definer = x; name = name }); slots = held2.maps.slots }
  only2 = ap (λ (z : Maps). record z { slots = held2.maps.slots }) (same_maps (keeps-moved (λ y. []) (o ∷ []) (owners_under t x) (with_definition x name held)) held1.maps.slots) ∙ ap (λ (z : Maps). record z { head = record (z.head) { next_prop = z.head.next_prop + 1 }; props = insert z.props (prop_id z.head.next_prop) (record { definer = x; name = name }); slots = held2.maps.slots }) same

  pub look_ups-with : look_ups held2.maps ≡ with_property m x name row
  look_ups-with = grind (arith, only2, get-insert, prop_total, unsigned_tied, slots2)
