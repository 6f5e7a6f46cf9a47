-- The properties that some of an object's chain define are among its slots.
use Rattle.moo_props.{proofs.Words.{arith, ◌≡◌, Bool, true, false, List, [], ◌∷◌, refl, sym, ap, ◌∙◌, ◌&&◌, unwrap_or, option_map, filter, list_any, get, entries, get-entries, entries_sorted, false≢true, and_parts, ObjNo, PropId, PropRow, prop_exact, Maps, prop_cmp, prop_total, is_among, IsGood, world_of, chain, listed, decided_alike, some_of, any_map, ids_among, is_defined_only, defined_only, not}, proofs.Shared.{Entry, has_id, is_id, is_id-Decides, object_of_chain, passing, slot_on_heir, walk, walk_meets}, proofs.Ascending.{rises_made, ascend}, proofs.SameKeys.{unique}, proofs.WalkOrder.{passing_ids_rise}, proofs.Walked.{any_filter}}

module _ (t : Maps) (good : IsGood t) (y : ObjNo) (these others : ObjNo → Bool) (within : (d : ObjNo) → these d ≡ true → is_among d (chain (world_of t) y) ≡ true) where
  abbrev passes : Entry → Bool
  passes e = is_defined_only these others t e.0.1

  -- the list by slots
  abbrev by_slots : List PropId
  by_slots = ids_among (filter passes (walk t y))

  -- and that by properties
  abbrev by_props : List PropId
  by_props = defined_only these others (entries t.props)

  in_props : (j : PropId) → has_id j by_props ≡ is_defined_only these others t j
  in_props j =
      listed prop_cmp prop_total prop_exact j (λ e. these e.1.definer && not (others e.1.definer)) (λ e. e.0) (is_id j) (λ e. refl) (entries t.props) (entries_sorted t.props)
      ∙ ap (λ o. unwrap_or (option_map (λ (p : PropRow). these p.definer && not (others p.definer)) o) false) (sym (get-entries t.props j))

  -- y has a slot of each such property, and the walk meets it
  met : (j : PropId) → is_defined_only these others t j ≡ true → list_any (λ (e : Entry). passes e && is_id j e.0.1) (walk t y) ≡ true
  met j h =
      let p = passing (λ (p : PropRow). these p.definer && not (others p.definer)) (get t.props j) h in
      let heir = within p.0.definer (and_parts (these p.0.definer) (not (others p.0.definer)) p.2).0 in
      let slot = some_of (get t.slots (y, j)) (slot_on_heir t good.sound good.formed y (object_of_chain (world_of t) p.0.definer y heir) j.0 p.0 p.1 heir) in
      walk_meets t good.sound y (λ (e : Entry). passes e && is_id j e.0.1) j slot.0 slot.1 (λ i. h i && (is_id-Decides j j).1 refl i)

  property_added : (j : PropId) (es : List Entry) → list_any (λ (e : Entry). passes e && is_id j e.0.1) es ≡ true → is_defined_only these others t j ≡ true
  property_added j [] h = absurd (false≢true h)
  property_added j (e ∷ es) h = grind (arith, (is_id-Decides j e.0.1).0, property_added j es)

  in_slots : (j : PropId) → has_id j by_slots ≡ is_defined_only these others t j
  in_slots j =
      any_map (is_id j) (λ (e : Entry). e.0.1) (filter passes (walk t y))
      ∙ any_filter (λ (e : Entry). is_id j e.0.1) passes (walk t y)
      ∙ decided_alike _ _ (is_defined_only these others t j ≡ true) (property_added j (walk t y), met j) (λ e. e, λ e. e)

  pub slots_are_props : by_slots ≡ by_props
  slots_are_props = unique prop_total prop_exact by_slots by_props
      (ascend prop_cmp by_slots (passing_ids_rise t y passes))
      (ascend prop_cmp by_props (rises_made prop_cmp (λ j. j) (λ e. these e.1.definer && not (others e.1.definer)) (λ e. e.0) (λ e. refl) (entries t.props) (entries_sorted t.props)))
      (λ j. in_slots j ∙ sym (in_props j))
