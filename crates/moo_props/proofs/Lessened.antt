-- Rows without an object show the world without it, and are sound.
use Rattle.moo_props.{proofs.Words.{arith, ◌||◌, ◌≡◌, ℕ, Bool, true, false, Option, None, Some, [], ◌∷◌, refl, sym, ap, ◌∙◌, is_some, unwrap_or, if◌then◌else◌, option_map, ObjNo, ObjRow, PropRow, unless_defined_by, Name, nothing, same_object, same_object-Decides, recycled, World, WorldObject, IsWellFormed, is_object, slot_of, with_slots, without_slots, LookUps, AreSound, name_on, slot_seen, object_shown, world_shown, SameButSlots-rebuilt, objects_same, is_object_seen, object_seen, released_row, SlotHere, is_among, or_parts}, proofs.Shared.{kept_slots, left_some, left_value, some_map, same_by_objects}}
use Rattle.moo_world.{proofs.Shown.ObjectEntries.{same_object-symm}, specs.Recycling.{released, object_removed}, proofs.Inheritance.Recycling.{recycle_law}}

-- x defines the property under a number
abbrev pub is_own : LookUps → ObjNo → ℕ → Bool
is_own m x j = unwrap_or (option_map (λ (p : PropRow). same_object p.definer x) (m.prop j)) false

-- the look-ups without x, its properties and their slots
abbrev pub less_object : LookUps → ObjNo → ObjNo → LookUps
less_object m x parent =
    record m {
      object = λ y. if same_object x y then None else option_map (released_row x parent) (m.object y);
      prop = λ j. if is_own m x j then None else m.prop j;
      slot = λ y j. if same_object x y then None else (if is_own m x j then None else m.slot y j);
      verb = λ y j. if same_object x y then None else m.verb y j;
    }

module _ (m : LookUps) (sound : AreSound m) (wf : IsWellFormed (world_shown m)) (x : ObjNo) (row : ObjRow) (here : m.object x ≡ Some row) where
  abbrev w : World
  w = world_shown m

  abbrev m2 : LookUps
  m2 = less_object m x row.parent

  abbrev s : World
  s = object_removed w x

  xo : is_object w x ≡ true
  xo = is_object_seen m x ∙ ap is_some here

  own_of : (j : ℕ) (p : PropRow) → m.prop j ≡ Some p → is_own m x j ≡ same_object p.definer x
  own_of j p e = ap (λ o. unwrap_or (option_map (λ (p : PropRow). same_object p.definer x) o) false) e

  -- ---- all but the slots

  -- another object's names are as they were
  names : (y : ObjNo) → same_object x y ≡ false → name_on m2 y ≡ name_on m y
  names y e = grind (arith, same_object-Decides)

  bare : without_slots (world_shown m2) ≡ without_slots (record w { object = λ y. if same_object x y then None else option_map (released x row.parent) (w.object y) })
  unfolding world_shown
  bare = grind (arith, names)

  links : without_slots (world_shown m2) ≡ without_slots s
  links = bare ∙ ap (λ q. without_slots (record w { object = λ y. if same_object x y then None else option_map (released x q) (w.object y) })) (sym (ap (λ o. unwrap_or (option_map (λ (r : WorldObject). r.row.parent) o) nothing) (object_seen m x row here)))

  -- ---- the slots

  -- what is here without x was here before
  before : (y : ObjNo) (n : Name) (j : ℕ) → same_object x y ≡ false → (h : SlotHere m2 y n j) → (k : SlotHere m y n j) × (slot_seen k.prop.definer k.row ≡ slot_seen h.prop.definer h.row) × (is_among h.prop.definer (x ∷ []) ≡ false)
  before y n j e h =
      let p = left_value (is_own m x j) (m.prop j) h.prop h.there in
      let k = left_value (is_own m x j) (m.slot y j) h.row (left_value (same_object x y) (if is_own m x j then None else m.slot y j) h.row h.held).1 in
      (record { prop = h.prop; row = h.row; there = p.1; held = k.1; name = h.name }, refl, ap (λ c. c || false) (sym (own_of j h.prop p.1) ∙ p.0))

  -- and what isn't of x is here still
  after : (y : ObjNo) (n : Name) (j : ℕ) → same_object x y ≡ false → (h : SlotHere m y n j) → is_among h.prop.definer (x ∷ []) ≡ false → SlotHere m2 y n j
  after y n j e h f = grind (arith, own_of, or_parts)

  still : (y : ObjNo) → same_object x y ≡ false → is_some (m.object y) ≡ true → is_some (m2.object y) ≡ true
  still y e h = ap (λ b. is_some (if b then None else option_map (released_row x row.parent) (m.object y))) e ∙ some_map (released_row x row.parent) (m.object y) ∙ h

  prop_was : (j : ℕ) (p : PropRow) → m2.prop j ≡ Some p → (same_object x p.definer ≡ false) × (m.prop j ≡ Some p)
  prop_was j p e = let k = left_value (is_own m x j) (m.prop j) p e in (same_object-symm x p.definer ∙ sym (own_of j p k.1) ∙ k.0, k.1)

  slot_was : (y : ObjNo) (j : ℕ) → is_some (m2.slot y j) ≡ true → (same_object x y ≡ false) × (is_own m x j ≡ false) × (is_some (m.slot y j) ≡ true)
  slot_was y j e = let a = left_some (same_object x y) (if is_own m x j then None else m.slot y j) e in let b = left_some (is_own m x j) (m.slot y j) a.1 in (a.0, b.0, b.1)

  pub sound_less : AreSound m2
  sound_less = grind (arith, left_some, prop_was, still, slot_was)

  kept : (y : ObjNo) (n : Name) → same_object x y ≡ false → is_object w y ≡ true → slot_of (world_shown m2) y n ≡ unless_defined_by (x ∷ []) (slot_of w y n)
  kept y n e o =
      let there : is_some (m.object y) ≡ true = sym (is_object_seen m y) ∙ o in
      kept_slots m m2 sound sound_less y n there (still y e there) (λ s. is_among s.definer (x ∷ [])) (unless_defined_by (x ∷ [])) refl (λ s. refl) (λ j. before y n j e) (λ j. after y n j e)

  pub world_less : world_shown m2 ≡ recycled w x
  world_less = grind (arith, same_by_objects, links, SameButSlots-rebuilt, left_some, is_object_seen, some_map, kept, recycle_law, xo, objects_same)
