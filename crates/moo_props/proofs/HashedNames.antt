-- Properties that are kept by the hashes of their names.
use Rattle.moo_props.{proofs.Words.{arith, ◌≡◌, ℕ, true, false, ◌&&◌, Option, None, Some, [], Less, refl, sym, ap, ◌∙◌, both_ways, and_parts, false_from_ne_true, true≢false, is_some, unwrap_or, option_map, list_any, IsTotalOrder, tied_itself, nat_cmp_is, ordering_then, FinMap, get, some_of, ObjNo, PropId, PropRow, prop_cmp, prop_total, IsFirst, Maps, Name, folded, slot_of, chain, defined_by_any, property_named, IsGood, IsSound, look_ups, world_of, is_object_seen, prop_id, meets_on, name_of, HoldsNames, hashed_cmp, has_under_name}, proofs.Cases.{passing}, proofs.Folding.{is_id, is_id-Decides}, proofs.Walked.{Entry, walk, walk_meets, slot_here}, proofs.NameClashes.{any_defined}}
use Rattle.std.{specs.Prelude.{⊤}, proofs.lemmas.Cmp.{on_total, then_total, nat_cmp_total}}
use Rattle.moo_rows.{specs.Links.{is_definer}, specs.Named.{is_alike, in_lower_case, name_hash}, specs.Ordered.{IsNext}, proofs.Linking.{defined-end}, proofs.Naming.{one_hash}}
use Rattle.moo_world.{proofs.Ownership.Kept.{slotted}, proofs.Shown.Slots.{slot_from}}
use lib.Pointwise.{bytes_decides}

pub hashed_total : IsTotalOrder hashed_cmp
hashed_total = then_total (on_total (λ (x : ℕ × PropId). x.0) nat_cmp_total) (on_total (λ (x : ℕ × PropId). x.1) prop_total)

-- after a last key none of the hash is past it
pub hashed-none : {X : Type 0} (m : FinMap hashed_cmp X) (hash : ℕ) (after : PropId) → IsNext m (Some (hash, after)) None → IsFirst prop_cmp (λ q. is_some (get m (hash, q))) after None
hashed-none m hash after h q past = ap is_some (h (hash, q) (ap (λ o. ordering_then o (prop_cmp after q)) (tied_itself nat_cmp_total hash) ∙ past))

-- ---- keeping all of an object's slots

-- a slot is met
pub id_met : (t : Maps) → IsSound t → (x : ObjNo) (id : PropId) → is_some (get t.slots (x, id)) ≡ true → list_any (λ (e : Entry). is_id id e.0.1) (walk t x) ≡ true
id_met t sound x id held = grind (arith, some_of, walk_meets, is_id, is_id-Decides)

-- ---- looking a name up

module _ (t : Maps) (good : IsGood t) (x : ObjNo) (n : Name) where
  parts : (q : PropId) → has_under_name t x n q ≡ true → ((p : PropRow) × (get t.props q ≡ Some p) × (is_alike p.name n ≡ true)) × (is_some (get t.slots (x, q)) ≡ true)
  parts q h = grind (arith, and_parts, passing)

  -- what isn't kept for the hash of the name isn't one of the name
  pub hashed-covers : (names : FinMap hashed_cmp ⊤) → HoldsNames t x names → (hash : ℕ) → hash ≡ name_hash n → (q : PropId) → is_some (get names (hash, q)) ≡ false → has_under_name t x n q ≡ false
  hashed-covers names holds hash same q lacks = grind (arith, false_from_ne_true, parts, both_ways, one_hash)

  pub one_is_named : (q : PropId) → has_under_name t x n q ≡ true → is_some (slot_of (world_of t) x (folded n)) ≡ true
  unfolding folded
  one_is_named q h =
      let p = parts q h in
      let s = some_of (get t.slots (x, q)) p.1 in
      let named : name_of t q ≡ folded n = ap (λ o. unwrap_or (option_map (λ (r : PropRow). folded r.name) o) []) p.0.1 ∙ (bytes_decides (in_lower_case p.0.0.name) (in_lower_case n)).0 p.0.2 in
      ap is_some (ap (slot_of (world_of t) x) (sym named) ∙ slot_here t good.sound x q s.0 s.1 p.0.0 p.0.1)

  pub none_is_named : IsFirst prop_cmp (has_under_name t x n) (prop_id 0) None → is_some (slot_of (world_of t) x (folded n)) ≡ false
  unfolding folded
  none_is_named none = false_from_ne_true (is_some (slot_of (world_of t) x (folded n))) (λ h.
      let s = some_of (slot_of (world_of t) x (folded n)) h in
      let row = some_of (get t.objects x) (sym (is_object_seen (look_ups t) x) ∙ slotted (world_of t) x (folded n) s.0 s.1) in
      let found = slot_from (look_ups t) x (folded n) row.0 row.1 s.0 s.1 in
      let here = found.1 in
      let id = prop_id found.0 in
      let past : prop_cmp (prop_id 0) id ≡ Less = sym (nat_cmp_is 0 found.0 Less (good.sound.props_below found.0 (ap is_some here.there)).0) in
      let alike : is_alike here.prop.name n ≡ true = (bytes_decides (in_lower_case here.prop.name) (in_lower_case n)).1 here.name in
      let passes : has_under_name t x n id ≡ true = (λ i. unwrap_or (option_map (λ (p : PropRow). is_alike p.name n) (here.there i)) false && is_some (here.held i)) ∙ ap (λ b. b && true) alike in
      both_ways (has_under_name t x n id) (none id past) passes)

-- ---- who defines nothing

-- it defines no name that new has
pub none_meets : (t : Maps) → IsSound t → (new y : ObjNo) (r : Option PropId) → IsFirst prop_cmp (is_definer t y) (prop_id 0) r → is_some r ≡ false → meets_on (world_of t) new y ≡ false
none_meets t sound new y (Some id) first h = absurd (true≢false h)
none_meets t sound new y None first h =
    sym (any_defined t sound (λ m. is_some (property_named (defined_by_any (world_of t) (chain (world_of t) new)) (folded m))) y)
    ∙ ap (list_any (λ e. is_some (property_named (defined_by_any (world_of t) (chain (world_of t) new)) (folded e.1.name)))) (defined-end t y (prop_id 0) first)
