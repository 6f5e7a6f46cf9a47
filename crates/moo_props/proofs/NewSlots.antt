-- The rows once a new object has its slots.
use Rattle.moo_props.{proofs.Words.{arith, ◌≡◌, Bool, true, cond, Option, None, Some, List, [], ◌∷◌, map, refl, sym, ap, ◌∙◌, ◌&&◌, is_some, if◌then◌else◌, option_map, int_eq, cons_option, AllByRecursion, get, insert, get-insert, false≢true, Decides-int_eq, ObjNo, PropId, SlotRow, Maps, Held, object_total, same_object, same_object-Decides, LookUps, IsSound, look_ups, prop_id, object_key, new_row, with_new_row, origins_among, origin_of, origins, with_fresh, fresh_row, any_map}, proofs.Shared.{Entry, has_id, is_id, is_id-Decides, keeps-fresh, no_value, same_maps, walk, walk_held, walk_meets, cond_same}, proofs.Folding.{slot_at-fresh, fresh_in, fresh_in-origins}}

-- ---- the origins that the walk gives are those of the properties of q

module _ (m : Maps) (q : ObjNo) where
  abbrev pub ids_on : List PropId
  ids_on = map (λ e. e.0.1) (walk m q)

  among_is : (es : List Entry) → AllByRecursion (λ e. (get m.slots e.0 ≡ Some e.1) × (int_eq e.0.0.0 q.0 ≡ true)) es → origins_among es ≡ origins m.slots q (map (λ e. e.0.1) es)
  among_is [] a = refl
  among_is (e ∷ es) a = grind (arith, Decides-int_eq, among_is es)

  -- each slot of q is met
  pub has_all : IsSound m → (j : PropId) (s : SlotRow) → get m.slots (q, j) ≡ Some s → has_id j ids_on ≡ true
  has_all sound j s e = any_map (is_id j) (λ (e : Entry). e.0.1) (walk m q) ∙ walk_meets m sound q (λ e. is_id j e.0.1) j s e ((is_id-Decides j j).1 refl)

-- ---- the look-ups

-- the look-ups with a new object under q, whose slots are fresh ones
abbrev pub with_new : LookUps → ObjNo → ObjNo → ObjNo → LookUps
with_new m x q owner =
    record m {
      head = record (m.head) { top = x.0 };
      object = λ y. if same_object x y then Some (new_row q owner) else m.object y;
      slot = λ y j. if same_object x y then option_map (fresh_row owner) (m.slot q j) else m.slot y j;
    }

module _ (t : Maps) (sound : IsSound t) (x q owner : ObjNo) (free : get t.objects x ≡ None) (held : Held) (at : held.maps ≡ t) where
  abbrev pub held1 : Held
  held1 = with_new_row x q owner held

  abbrev pub held2 : Held
  held2 = with_fresh x owner (origins_among (walk t q)) held1

  no_slots : (j : PropId) → get t.slots (x, j) ≡ None
  no_slots j = no_value (get t.slots (x, j)) (λ s e. false≢true (ap is_some (sym free) ∙ (sound.slots x j.0 (ap is_some e)).0))

  slots2 : (z : ObjNo) (j : PropId) → get held2.maps.slots (z, j) ≡ (if same_object x z then option_map (fresh_row owner) (get t.slots (q, j)) else get t.slots (z, j))
  slots2 z j =
      slot_at-fresh x z owner j (origins_among (walk t q)) held1
      ∙ (λ i. cond (same_object x z) (fresh_in owner (among_is t q (walk t q) (walk_held t q) i) j (get (at i).slots (z, j))) (get (at i).slots (z, j)))
      ∙ by (same_object x z) refl
    where
      all_here : (o : Option SlotRow) → get t.slots (q, j) ≡ o → cond (has_id j (ids_on t q) && is_some o) (option_map (fresh_row owner) o) None ≡ option_map (fresh_row owner) o
      all_here b e = grind (arith, cond_same, has_all)

      by : (b : Bool) → same_object x z ≡ b → cond b (fresh_in owner (origins t.slots q (ids_on t q)) j (get t.slots (z, j))) (get t.slots (z, j)) ≡ (if b then option_map (fresh_row owner) (get t.slots (q, j)) else get t.slots (z, j))
      by b e = grind (arith, same_object-Decides, no_slots, fresh_in-origins, all_here)

  only2 : held2.maps ≡ record t { head = record (t.head) { top = x.0 }; objects = insert t.objects x (new_row q owner); slots = held2.maps.slots }
  only2 = same_maps (keeps-fresh x owner (origins_among (walk t q)) held1) held2.maps.slots ∙ ap (λ (z : Maps). record z { head = record (z.head) { top = x.0 }; objects = insert z.objects x (new_row q owner); slots = held2.maps.slots }) at

  pub look_ups-new : look_ups held2.maps ≡ with_new (look_ups t) x q owner
  look_ups-new = grind (arith, only2, get-insert, object_total, object_key, slots2)
