-- Rows with a new property show the world with it, and are sound.
use Rattle.moo_props.{proofs.Words.{slot_shown, ◌≡◌, ℕ, ◌+◌, ◌<◌, Bool, true, false, eqb, Option, None, Some, List, [], ◌∷◌, ◌++◌, refl, sym, ap, ◌∙◌, subst, arith, ◌&&◌, is_some, unwrap_or, slice_get, if◌then◌else◌, option_map, option_and_then, option_or, filter_map, cons_option, eqb-true, eq-eqb, filter_map-append, same_Some, ObjNo, Value, ObjRow, PropRow, SlotRow, Set, clashes, property_added, Name, nothing, same_object, same_text, folded, is_among, same_object-Decides, same_text-Decides, World, WorldObject, Slot, IsWellFormed, is_object, is_property_name, chain, owner_of, property_names_of, fresh, slot_fits, LookUps, AreSound, numbers_below, name_on, slot_on, slot_seen, object_shown, world_shown, names_shown, is_object_seen, object_seen, Chain-chain, fresh_of, some_of, slots_shown, ne_eqb}, proofs.Shared.{has_owed, none_of, object_of_chain, put_some, same_below}}
use Rattle.std.proofs.Common.{add-one}
use Rattle.moo_rows.specs.declared.row.Bits.{Bits}
use Rattle.moo_world.{proofs.Shown.RowLaws.{with_prop, names_with_prop, other_names_with_prop}, proofs.Inheritance.Insertion.{IsWellFormed-property_added, none_owed}}

-- the look-ups with a property of the next number: on x its slot, on each descendant a fresh one
abbrev pub with_property : LookUps → ObjNo → Name → SlotRow → LookUps
with_property m x name row =
    record (with_prop m (record { definer = x; name = name })) {
      slot = λ y j. if eqb j m.head.next_prop && is_among x (chain (world_shown m) y) then Some (if same_object x y then row else fresh_of (owner_of (world_shown m) y) (record { id = record { 0 = m.head.next_prop }; owner = row.owner; bits = row.bits })) else m.slot y j;
    }

module _ (m : LookUps) (sound : AreSound m) (wf : IsWellFormed (world_shown m)) (x : ObjNo) (name : Name) (owner : ObjNo) (bits : Bits) (value : Value) (xo : is_object (world_shown m) x ≡ true) (free : clashes (world_shown m) x name ≡ false) where
  abbrev w : World
  w = world_shown m

  abbrev next : ℕ
  next = m.head.next_prop

  abbrev row : SlotRow
  row = record { owner = owner; bits = bits; state = Set value }

  abbrev m2 : LookUps
  m2 = with_property m x name row

  abbrev s : Slot
  s = record { definer = x; owner = owner; bits = bits; state = Set value }

  abbrev under : ObjNo → Bool
  under y = is_among x (chain w y)

  abbrev prop : PropRow
  prop = record { definer = x; name = name }

  counter : w.next_prop ≡ next
  unfolding world_shown
  counter = refl

  -- ---- the next number

  is_next : eqb next next ≡ true
  is_next = eq-eqb next next refl

  other : (j : ℕ) → j < next → eqb j next ≡ false
  other j l = ne_eqb j next (λ e. absurd (omega arith))

  -- ---- names

  names : (y : ObjNo) (r : ObjRow) → m.object y ≡ Some r → filter_map (name_on m2 y) (numbers_below (next + 1)) ≡ (if same_object x y then filter_map (name_on m y) (numbers_below next) ++ name ∷ [] else filter_map (name_on m y) (numbers_below next))
  names y r e = by (same_object x y) refl
    where
      after : property_names_of (world_shown (with_prop m prop)) y ≡ filter_map (name_on m2 y) (numbers_below (next + 1))
      after = names_shown (with_prop m prop) y r e

      by : (b : Bool) → same_object x y ≡ b → filter_map (name_on m2 y) (numbers_below (next + 1)) ≡ (if b then filter_map (name_on m y) (numbers_below next) ++ name ∷ [] else filter_map (name_on m y) (numbers_below next))
      by b f = grind (arith, after, (same_object-Decides x y).0, names_with_prop m prop r, other_names_with_prop m prop y r e, names_shown m y r e)

  -- ---- slots

  first_of_two : (l : List Slot) (o : Option Slot) → slice_get (l ++ cons_option o []) 0 ≡ option_or (slice_get l 0) o
  first_of_two [] o = grind arith
  first_of_two (k ∷ l) o = refl

  or_none : (o : Option Slot) → option_or o None ≡ o
  or_none b = grind arith

  abbrev old : ObjNo → Name → Option Slot
  old y n = slice_get (filter_map (slot_on m y n) (numbers_below next)) 0

  before : (y : ObjNo) (n : Name) (j : ℕ) → j < next → slot_on m2 y n j ≡ slot_on m y n j
  before y n j l = ap (λ b. option_and_then (λ (p : PropRow). if same_text (folded p.name) n then option_map (slot_seen p.definer) (if b && under y then Some (if same_object x y then row else fresh_of (owner_of w y) (record { id = record { 0 = next }; owner = owner; bits = bits })) else m.slot y j) else None) (if b then Some prop else m.prop j)) (other j l)

  abbrev made : ObjNo → SlotRow
  made y = if same_object x y then row else fresh_of (owner_of w y) (record { id = record { 0 = next }; owner = owner; bits = bits })

  last : (y : ObjNo) (n : Name) → slot_on m2 y n next ≡ (if same_text (folded name) n then option_map (slot_seen x) (if under y then Some (made y) else None) else None)
  last y n = grind (arith)

  all_slots : (y : ObjNo) (n : Name) → slice_get (filter_map (slot_on m2 y n) (numbers_below (next + 1))) 0 ≡ option_or (old y n) (if same_text (folded name) n then option_map (slot_seen x) (if under y then Some (made y) else None) else None)
  all_slots y n = grind (arith, add-one, filter_map-append, first_of_two, same_below, before, last)

  none_yet : (y : ObjNo) (r : ObjRow) → m.object y ≡ Some r → under y ≡ true → old y (folded name) ≡ None
  none_yet y r e u =
      let yo : is_object w y ≡ true = is_object_seen m y ∙ ap is_some e in
      none_of (old y (folded name)) (ap is_some (sym (slots_shown m y (folded name) r e)) ∙ has_owed w wf y (folded name) ∙ ap is_some (none_owed w wf x name s xo free y (chain w y) (Chain-chain w wf.tree y yo) u))

  seen : (y : ObjNo) (o : ObjNo) (b : Bool) → slot_seen x (if b then row else fresh_of o (record { id = record { 0 = next }; owner = owner; bits = bits })) ≡ (if b then s else fresh o s)
  seen y o b = grind arith

  slots : (y : ObjNo) (r : ObjRow) → m.object y ≡ Some r → (n : Name) → slice_get (filter_map (slot_on m2 y n) (numbers_below (next + 1))) 0 ≡ (if under y then (if same_text (folded name) n then Some (if same_object x y then s else fresh r.owner s) else old y n) else old y n)
  slots y r e n = all_slots y n ∙ by (under y) refl (same_text (folded name) n) refl
    where
      owner_is : owner_of w y ≡ r.owner
      owner_is = ap (λ o. unwrap_or (option_map (λ (k : WorldObject). k.row.owner) o) nothing) (object_seen m y r e)

      by : (u : Bool) → under y ≡ u → (b : Bool) → same_text (folded name) n ≡ b → option_or (old y n) (if b then option_map (slot_seen x) (if u then Some (made y) else None) else None) ≡ (if u then (if b then Some (if same_object x y then s else fresh r.owner s) else old y n) else old y n)
      by u hu b hb = grind (arith, or_none, none_yet y r e, (same_text-Decides (folded name) n).0, seen, owner_is)

  -- ---- the world

  pub world_with : world_shown m2 ≡ property_added w x name s
  unfolding world_shown
  world_with = grind (arith, names, slots)

  pub formed_with : is_property_name name ≡ true → next < 4294967295 → slot_fits s ≡ true → IsWellFormed (property_added w x name s)
  formed_with n l f = IsWellFormed-property_added w wf x name s xo free refl (λ c. absurd (cc)) n (subst (λ k. k < 4294967295) (sym counter) l) f

  -- ---- the rows are sound

  there : (y : ObjNo) → under y ≡ true → is_some (m.object y) ≡ true
  there y u = sym (is_object_seen m y) ∙ object_of_chain w x y u

  -- a slot is of the new property, or was there
  data Origin (y : ObjNo) (j : ℕ) : Type 0 where
    new : j ≡ next → under y ≡ true → Origin y j
    before_it : is_some (m.slot y j) ≡ true → Origin y j

  origin : (y : ObjNo) (j : ℕ) → is_some (m2.slot y j) ≡ true → Origin y j
  origin y j h = grind (arith, eqb-true)

  rows_of : (y : ObjNo) (j : ℕ) → Origin y j → (is_some (m.object y) ≡ true) × (is_some (m2.prop j) ≡ true)
  rows_of y j o = grind (arith, there, put_some, is_next, sound.slots y j)

  -- the property of an old slot is an old one
  old_prop : (y : ObjNo) (j : ℕ) (p : PropRow) → is_some (m.slot y j) ≡ true → m2.prop j ≡ Some p → m.prop j ≡ Some p
  old_prop y j p h f = grind (arith, eqb-true)

  new_prop : (j : ℕ) (p : PropRow) → j ≡ next → m2.prop j ≡ Some p → prop ≡ p
  new_prop j p e f = same_Some prop p (sym (ap (λ k. if eqb k next then Some prop else m.prop k) e ∙ ap (λ b. if b then Some prop else m.prop next) is_next) ∙ f)

  clash : (y : ObjNo) (j : ℕ) (r : PropRow) → under y ≡ true → is_some (m.slot y j) ≡ true → m.prop j ≡ Some r → folded name ≡ folded r.name → ⊥
  clash y j r u h e n = grind (arith, some_of, slot_shown, slots_shown m y (folded name), none_yet y, sound.slots y j h)

  one_name : (y : ObjNo) (i j : ℕ) (p r : PropRow) → Origin y i → Origin y j → m2.prop i ≡ Some p → m2.prop j ≡ Some r → folded p.name ≡ folded r.name → i ≡ j
  one_name y i j p r b o g h n = grind (arith, old_prop, clash, new_prop)

  low : (j : ℕ) → is_some (m2.prop j) ≡ true → (0 < j) × (j < next + 1)
  low j e = grind (arith, eqb-true, subst (λ k. 0 < k) counter wf.limits.props.0)

  definer : (j : ℕ) (p : PropRow) → m2.prop j ≡ Some p → is_some (m.object p.definer) ≡ true
  definer j p e = grind (arith, sym (is_object_seen m x) ∙ xo)

  pub sound_with : AreSound m2
  sound_with = grind (arith, low, definer, slots, rows_of, origin, one_name)
