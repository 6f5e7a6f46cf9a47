-- The rows once an object is dropped, by their look-ups.
use Rattle.moo_props.{proofs.Words.{arith, ◌≡◌, ℕ, Bool, false, cond, Option, None, Some, List, [], ◌∷◌, refl, sym, ap, ◌∙◌, unwrap_or, if◌then◌else◌, option_map, eq_by_cmp, int_eq, list_any, get, remove, entries, get-insert, get-remove, get-entries, entries_sorted, ObjNo, ObjRow, PropId, PropRow, VerbId, VerbRow, object_exact, Maps, Held, wrote, object_cmp, verb_cmp, object_total, prop_total, same_object, same_object-Decides, same_object-eq, IsGood, LookUps, look_ups, prop_id, verb_id, object_key, is_object_seen, links_to, released_row, ids_for, ids_among, verbs_among, linked_among, props_removed, verbs_removed, row_released, rows_released, owners_under, props_of, listed, or_parts, or-false, slots_moved, without_prop, without_verb}, proofs.Shared.{all_change, cond_same, has_id, is_id, own_among, own_under, same_base, same_maps, walk}, proofs.Lessened.{is_own, less_object}, proofs.Moved.{keeps-moved, slots_of_moved, has}, proofs.Folds.{all_keep, but_objects, but_props, but_verbs}, proofs.NewSlots.{has_all}}
use Rattle.moo_rows.{specs.Exact.{verb_exact}, proofs.Orders.{verb_total}}

-- ---- what the steps leave as it was

props-removed : (j : PropId) (ids : List PropId) (held : Held) → get (props_removed ids held).maps.props j ≡ cond (has_id j ids) None (get held.maps.props j)
props-removed j = all_change (λ id held. without_prop held id) (λ h. get h.maps.props j) (is_id j) (λ o. None) (λ o. refl) (λ id h. get-remove prop_total h.maps.props id j)

verbs-removed : (k : ObjNo × VerbId) (keys : List (ObjNo × VerbId)) (held : Held) → get (verbs_removed keys held).maps.verbs k ≡ cond (list_any (eq_by_cmp verb_cmp k) keys) None (get held.maps.verbs k)
verbs-removed k = all_change (λ key held. without_verb held key) (λ h. get h.maps.verbs k) (eq_by_cmp verb_cmp k) (λ o. None) (λ o. refl) (λ key h. get-remove verb_total h.maps.verbs key k)

module _ (x q : ObjNo) where
  keeps-released : (ys : List ObjNo) (held : Held) → but_objects (rows_released x q ys held) ≡ but_objects held
  keeps-released = all_keep (row_released x q) but_objects (λ y held. grind arith)

  abbrev rel : ObjRow → ObjRow
  rel = released_row x q

  twice : (r : ObjRow) → rel (rel r) ≡ rel r
  twice r = grind (arith, cond_same)

  one_released : (y z : ObjNo) (held : Held) → get (row_released x q y held).maps.objects z ≡ cond (same_object y z) (option_map rel (get held.maps.objects z)) (get held.maps.objects z)
  one_released y z held = grind (arith, object_key y z, get-insert object_total held.maps.objects y, (same_object-Decides y z).0)

  rows-released : (z : ObjNo) (ys : List ObjNo) (held : Held) → get (rows_released x q ys held).maps.objects z ≡ cond (list_any (λ y. same_object y z) ys) (option_map rel (get held.maps.objects z)) (get held.maps.objects z)
  rows-released z = all_change (row_released x q) (λ h. get h.maps.objects z) (λ y. same_object y z) (option_map rel) (λ o. grind (arith, twice)) (λ y h. one_released y z h)

  -- a row that isn't linked to x is released already
  unlinked : (r : ObjRow) → links_to x r ≡ false → Some r ≡ Some (rel r)
  unlinked r e = grind (arith, or_parts)

module _ (t : Maps) (good : IsGood t) (x : ObjNo) (row : ObjRow) (here : get t.objects x ≡ Some row) (held : Held) (same : held.maps ≡ t) where
  abbrev m : LookUps
  m = look_ups t

  abbrev all : List PropId
  all = ids_among (walk t x)

  abbrev own : List PropId
  own = props_of (x ∷ []) t.props

  abbrev pub held1 : Held
  held1 = slots_moved (ids_for x all own) [] (owners_under t x) held

  abbrev pub held2 : Held
  held2 = props_removed own held1

  abbrev pub held3 : Held
  held3 = verbs_removed (verbs_among x (entries t.verbs)) held2

  abbrev pub held4 : Held
  held4 = rows_released x row.parent (linked_among x (entries t.objects)) held3

  abbrev pub held5 : Held
  held5 = wrote held4 (record (held4.maps) { objects = remove held4.maps.objects x })

  pub only1 : held1.maps ≡ record t { slots = held1.maps.slots }
  only1 = same_maps (keeps-moved (ids_for x all own) [] (owners_under t x) held) held1.maps.slots ∙ ap (λ (k : Maps). record k { slots = held1.maps.slots }) same

  only2 : held2.maps ≡ record t { slots = held1.maps.slots; props = held2.maps.props }
  only2 = same_maps (all_keep (λ id h. without_prop h id) but_props (λ id h. refl) own held1) held2.maps.props ∙ ap (λ (k : Maps). record k { props = held2.maps.props }) only1

  only3 : held3.maps ≡ record t { slots = held1.maps.slots; props = held2.maps.props; verbs = held3.maps.verbs }
  only3 = same_maps (all_keep (λ key h. without_verb h key) but_verbs (λ key h. refl) (verbs_among x (entries t.verbs)) held2) held3.maps.verbs ∙ ap (λ (k : Maps). record k { verbs = held3.maps.verbs }) only2

  pub only5 : held5.maps ≡ record t { slots = held1.maps.slots; props = held2.maps.props; verbs = held3.maps.verbs; objects = remove held4.maps.objects x }
  only5 = same_maps (keeps-released x row.parent (linked_among x (entries t.objects)) held3) (remove held4.maps.objects x) ∙ ap (λ (k : Maps). record k { objects = remove held4.maps.objects x }) only3

  pub base5 : held5.base ≡ held.base
  base5 =
      same_base (keeps-released x row.parent (linked_among x (entries t.objects)) held3)
      ∙ same_base (all_keep (λ key h. without_verb h key) but_verbs (λ key h. refl) (verbs_among x (entries t.verbs)) held2) ∙ same_base (all_keep (λ id h. without_prop h id) but_props (λ id h. refl) own held1) ∙ same_base (keeps-moved (ids_for x all own) [] (owners_under t x) held)

  -- ---- the properties of x

  pub is_own_id : (j : PropId) → has_id j own ≡ is_own m x j.0
  is_own_id j = has t (x ∷ []) j ∙ (λ i. unwrap_or (option_map (λ (p : PropRow). or-false (same_object p.definer x) i) (get t.props j)) false)

  pub props5 : (j : ℕ) → get held2.maps.props (prop_id j) ≡ (if is_own m x j then None else m.prop j)
  props5 j = grind (arith, props-removed, is_own_id, only1)

  -- ---- slots

  pub slots5 : (z : ObjNo) (j : PropId) → get held1.maps.slots (z, j) ≡ (if same_object x z then None else (if is_own m x j.0 then None else get t.slots (z, j)))
  slots5 z j = grind (arith, slots_of_moved, cond_same, is_object_seen, own_among, has_all, own_under, same_object-Decides, is_own_id)

  -- ---- verbs

  pub verbs5 : (z : ObjNo) (j : ℕ) → get held3.maps.verbs (z, verb_id j) ≡ (if same_object x z then None else m.verb z j)
  verbs5 z j =
      verbs-removed (z, verb_id j) (verbs_among x (entries t.verbs)) held2
      ∙ (λ i. cond (listed verb_cmp verb_total verb_exact (z, verb_id j) (λ e. int_eq e.0.0.0 x.0) (λ e. e.0) (eq_by_cmp verb_cmp (z, verb_id j)) (λ e. refl) (entries t.verbs) (entries_sorted t.verbs) i) None (get (only2 i).verbs (z, verb_id j)))
      ∙ ap (λ o. cond (unwrap_or (option_map (λ (v : VerbRow). int_eq z.0 x.0) o) false) None (get t.verbs (z, verb_id j))) (sym (get-entries t.verbs (z, verb_id j)))
      ∙ ap (λ b. cond (unwrap_or (option_map (λ (v : VerbRow). b) (get t.verbs (z, verb_id j))) false) None (get t.verbs (z, verb_id j))) (same_object-eq x z)
      ∙ by (get t.verbs (z, verb_id j))
    where
      by : (o : Option VerbRow) → cond (unwrap_or (option_map (λ (v : VerbRow). same_object x z) o) false) None o ≡ (if same_object x z then None else o)
      by b = grind (arith, cond_same)

  -- ---- objects

  pub objects5 : (z : ObjNo) → get (remove held4.maps.objects x) z ≡ (if same_object x z then None else option_map (released_row x row.parent) (m.object z))
  objects5 z =
      get-remove object_total held4.maps.objects x z
      ∙ (λ i. cond (object_key x z i) None (rows-released x row.parent z (linked_among x (entries t.objects)) held3 i))
      ∙ (λ i. cond (same_object x z) None (settle (listed object_cmp object_total object_exact z (λ e. links_to x e.1) (λ e. e.0) (λ y. same_object y z) (λ e. sym (object_key e.0 z)) (entries t.objects) (entries_sorted t.objects) i) (get (only3 i).objects z)))
      ∙ ap (λ o. cond (same_object x z) None (settle (unwrap_or (option_map (λ r. links_to x r) o) false) (get t.objects z))) (sym (get-entries t.objects z))
      ∙ by (same_object x z) (get t.objects z)
    where
      settle : Bool → Option ObjRow → Option ObjRow
      settle b g = cond b (option_map (released_row x row.parent) g) g

      linked : (r : ObjRow) (b : Bool) → links_to x r ≡ b → cond b (Some (released_row x row.parent r)) (Some r) ≡ Some (released_row x row.parent r)
      linked r b e = grind (arith, unlinked)

      by : (b : Bool) (o : Option ObjRow) → cond b None (cond (unwrap_or (option_map (λ r. links_to x r) o) false) (option_map (released_row x row.parent) o) o) ≡ (if b then None else option_map (released_row x row.parent) o)
      by b o = grind arith

  pub look_ups-less : look_ups held5.maps ≡ less_object m x row.parent
  look_ups-less = grind (arith, only5, objects5, props5, slots5, verbs5)
