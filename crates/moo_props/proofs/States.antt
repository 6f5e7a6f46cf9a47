-- What another row of one slot does to the World.
use Rattle.moo_props.{proofs.Words.{arith, ◌≡◌, ℕ, Bool, true, false, Option, None, Some, [], refl, sym, ap, subst, ◌∙◌, is_some, unwrap_or, if◌then◌else◌, option_map, option_and_then, get, insert, both_ways, eqb-true, same_Some, ObjNo, PropId, PropRow, SlotRow, Clear, Maps, with_slot_of, Name, same_object, same_text, folded, same_object-Decides, same_text-Decides, World, WorldObject, IsWellFormed, Slot, slot_of, object_changed, slot_fits, LookUps, IsSound, IsGood, look_ups, world_of, world_shown, slot_seen, prop_id, spelling_of, defines, some_of}, proofs.Shared.{seen_at, slot_here}}
use Rattle.moo_world.{specs.Petitions.{PetitionsStand}, proofs.Shown.RowLaws.{world_shown-with_slot_row}, proofs.Shown.MapLaws.{look_ups-put_slot}, proofs.Form.Slots.{IsWellFormed-with_slot_of}}

module _ (t : Maps) (sound : IsSound t) (x : ObjNo) (id : PropId) (k : SlotRow) (held : get t.slots (x, id) ≡ Some k) (next : SlotRow) (change : Slot → Slot) (agrees : (d : ObjNo) → change (slot_seen d k) ≡ slot_seen d next) where
  abbrev m : LookUps
  m = look_ups t

  abbrev w : World
  w = world_of t

  there : (is_some (m.object x) ≡ true) × (is_some (m.prop id.0) ≡ true)
  there = sound.slots x id.0 (ap is_some held)

  prop : (p : PropRow) × (m.prop id.0 ≡ Some p)
  prop = some_of (m.prop id.0) there.1

  one : world_of (record t { slots = insert t.slots (x, id) next }) ≡ object_changed w x (λ r. record r { slot = λ n. if same_text (folded prop.0.name) n then Some (slot_seen prop.0.definer next) else r.slot n })
  one = ap world_shown (look_ups-put_slot t x id next)
      ∙ world_shown-with_slot_row m x id.0 next prop.0 prop.1 (sound.props_below id.0 (ap is_some prop.1)).1 (λ j r e s n. sound.one_name x j id.0 r prop.0 s (ap is_some held) e prop.1 n)

  shown : slot_of w x (folded prop.0.name) ≡ Some (slot_seen prop.0.definer k)
  shown = seen_at m sound x (folded prop.0.name) id.0 (record { prop = prop.0; row = k; there = prop.1; held = held; name = refl })

  same : object_changed w x (λ r. record r { slot = λ n. if same_text (folded prop.0.name) n then Some (slot_seen prop.0.definer next) else r.slot n }) ≡ with_slot_of w x prop.0.name change
  same = λ i. record w { object = λ y. at y (same_object x y) refl (w.object y) refl i }
    where
      slots : (r : WorldObject) → r.slot (folded prop.0.name) ≡ Some (slot_seen prop.0.definer k) → (n : Name) (b : Bool) → same_text (folded prop.0.name) n ≡ b → (if b then Some (slot_seen prop.0.definer next) else r.slot n) ≡ (if b then option_map change (r.slot n) else r.slot n)
      slots r h n b e = grind (arith, agrees prop.0.definer, same_text-Decides)

      at : (y : ObjNo) (b : Bool) → same_object x y ≡ b → (o : Option WorldObject) → w.object y ≡ o
          → option_map (λ (r : WorldObject). if b then record r { slot = λ n. if same_text (folded prop.0.name) n then Some (slot_seen prop.0.definer next) else r.slot n } else r) o
          ≡ option_map (λ (r : WorldObject). if b then record r { slot = λ n. if same_text (folded prop.0.name) n then option_map change (r.slot n) else r.slot n } else r) o
      at y b e None h = refl
      at y false e (Some r) h = refl
      at y true e (Some r) h =
          let own : r.slot (folded prop.0.name) ≡ Some (slot_seen prop.0.definer k) = sym (ap (option_and_then (λ (z : WorldObject). z.slot (folded prop.0.name))) (ap w.object ((same_object-Decides x y).0 e) ∙ h)) ∙ shown in
          λ i. Some (record r { slot = λ n. slots r own n (same_text (folded prop.0.name) n) refl i })

  pub put_slot_world : world_of (record t { slots = insert t.slots (x, id) next }) ≡ with_slot_of w x (spelling_of t id) change
  put_slot_world = one ∙ same ∙ ap (λ n. with_slot_of w x n change) (sym (ap (λ o. unwrap_or (option_map (λ (p : PropRow). p.name) o) []) prop.1))

  still : (y : ObjNo) (j : ℕ) → is_some (get (insert t.slots (x, id) next) (y, prop_id j)) ≡ true → is_some (m.slot y j) ≡ true
  still y j e = let h = ap is_some (sym (ap (λ (r : LookUps). r.slot y j) (look_ups-put_slot t x id next))) ∙ e in grind (arith, same_object-Decides, eqb-true)

  -- such rows stay sound
  pub put_slot_sound : IsSound (record t { slots = insert t.slots (x, id) next })
  put_slot_sound = record {
    props_below = sound.props_below;
    definers = sound.definers;
    slots = λ y j e. sound.slots y j (still y j e);
    one_name = λ y i j p r e f. sound.one_name y i j p r (still y i e) (still y j f);
    verbs = sound.verbs;
  }

  module _ (wf : IsWellFormed w) (keeps : (s : Slot) → (change s).definer ≡ s.definer) (set : next.state ≡ Clear → defines t x id ≡ false) (fits_still : (s : Slot) → slot_fits s ≡ true → slot_fits (change s) ≡ true) (petitions : PetitionsStand t.petitions t.head.next_petition) where
    stays_set : (s : Slot) → slot_of w x (folded prop.0.name) ≡ Some s → s.definer ≡ x → (change s).state ≡ Clear → ⊥
    stays_set s e d c =
        let is : slot_seen prop.0.definer k ≡ s = same_Some (slot_seen prop.0.definer k) s (sym shown ∙ e) in
        let clear : next.state ≡ Clear = ap (λ (z : Slot). z.state) (sym (agrees prop.0.definer) ∙ ap change is) ∙ c in
        let own : same_object prop.0.definer x ≡ true = (same_object-Decides prop.0.definer x).1 (ap (λ (z : Slot). z.definer) is ∙ d) in
        both_ways (same_object prop.0.definer x) (sym (ap (λ o. unwrap_or (option_map (λ (p : PropRow). same_object p.definer x) o) false) prop.1) ∙ set clear) own

    -- and good ones, where the slot on the definer stays set
    pub put_slot_good : IsGood (record t { slots = insert t.slots (x, id) next })
    put_slot_good = record {
      sound = put_slot_sound;
      formed = subst IsWellFormed (sym (one ∙ same)) (IsWellFormed-with_slot_of w x prop.0.name change wf keeps stays_set fits_still);
      petitions = petitions;
    }

-- a slot that is clear isn't the definer's
pub clear_inherited : (t : Maps) → IsGood t → (x : ObjNo) (id : PropId) (k : SlotRow) → get t.slots (x, id) ≡ Some k → k.state ≡ Clear → defines t x id ≡ false
clear_inherited t good x id k held clear = grind (arith, slot_here, same_object-Decides)
