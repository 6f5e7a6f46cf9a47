-- The first property that an object defines under a name, and what that says of its slots and of those below it.
use Rattle.moo_props.{proofs.Words.{arith, ◌||◌, ◌≡◌, Bool, true, false, Option, None, Some, IfSome, some_of, ◌∷◌, refl, sym, ap, ◌∙◌, ◌&&◌, and-true, or_left, or_right, is_some, int_eq, list_any, get, entries, ObjNo, ObjRow, PropId, PropRow, prop_cmp, prop_exact, prop_total, IsFirst, defined_left, Maps, Name, is_among, same_object-Decides, chain, World, IsGood, IsSound, look_ups, world_of, prop_id, slot_of, defines_name, defines, name_of}, proofs.Cases.{passing}, proofs.NameClashes.{any_defined, any_defines}, proofs.Shared.{has_owed, slot_on_heir, object_of_chain}, proofs.Walked.{any_filter}}
use Rattle.moo_rows.{specs.Named.{is_alike, is_named_by}, specs.Walk.{props_left}, proofs.Firsts.{first-end, first-step, those_past}}
use Rattle.moo_world.{proofs.Ancestry.Chains.{is_among_here}, proofs.Shown.Seen.{chain_of_row, chain_of_no_row}, specs.Objects.{same_text, folded, same_object}}
use lib.Pointwise.{bytes_decides}

-- ---- what one defines itself

module _ (t : Maps) (y : ObjNo) (n : Name) where
  abbrev test : PropRow → Bool
  test p = int_eq p.definer.0 y.0 && is_alike p.name n

  -- it is the object's own, and has the name
  pub first_own : (r : Option PropId) → IsFirst prop_cmp (is_named_by t y n) (prop_id 0) r → IfSome r (λ id. defines t y id ≡ true)
  unfolding same_object
  first_own b h = grind arith

  pub first_named : (r : Option PropId) → IsFirst prop_cmp (is_named_by t y n) (prop_id 0) r → IfSome r (λ id. name_of t id ≡ folded n)
  unfolding folded
  first_named b h = grind (arith, bytes_decides)

  -- there is a first one if there is any
  some_first : (r : Option PropId) → IsFirst prop_cmp (is_named_by t y n) (prop_id 0) r → is_some r ≡ list_any (λ _. true) (those_past prop_total prop_exact test (prop_id 0) (entries t.props))
  some_first None h = sym (ap (list_any (λ _. true)) (first-end prop_total prop_exact test t.props (prop_id 0) h))
  some_first (Some id) h =
      let p = passing test (get t.props id) h.0 in
      sym (ap (list_any (λ _. true)) (first-step prop_total prop_exact test t.props (prop_id 0) id p.0 h p.1))

  any_left : list_any (λ e. test e.1) (props_left (Some (prop_id 0)) t) ≡ list_any (λ e. same_text (folded e.1.name) (folded n)) (defined_left y (prop_id 0) t)
  unfolding same_text folded
  any_left = sym (any_filter (λ (e : PropId × PropRow). same_text (folded e.1.name) (folded n)) (λ e. int_eq e.1.definer.0 y.0) (props_left (Some (prop_id 0)) t))

  pub first_exact : IsSound t → (r : Option PropId) → IsFirst prop_cmp (is_named_by t y n) (prop_id 0) r → is_some r ≡ defines_name (world_of t) y n
  first_exact sound r h = grind (arith, some_first, any_filter, and-true, any_left, any_defined)

-- who defines a property is an object
pub own_row : (t : Maps) → IsSound t → (y : ObjNo) (id : PropId) → defines t y id ≡ true → (row : ObjRow) × (Some row ≡ get t.objects y)
own_row t sound y id own =
    let p = passing (λ (p : PropRow). same_object p.definer y) (get t.props id) own in
    let there : is_some (get t.objects y) ≡ true = ap (λ d. is_some (get t.objects d)) (sym ((same_object-Decides p.0.definer y).0 p.2)) ∙ sound.definers id.0 p.0 p.1 in
    let row = some_of (get t.objects y) there in
    (row.0, sym row.1)

-- ---- climbing from x

module _ (t : Maps) (good : IsGood t) (x : ObjNo) where
  abbrev w : World
  w = world_of t

  -- what the chain defines x has
  pub chain_has : (n : Name) → list_any (λ y. defines_name w y n) (chain w x) ≡ is_some (slot_of w x (folded n))
  chain_has n = any_defines w (chain w x) n ∙ sym (has_owed w good.formed x (folded n))

  -- at the end none is left
  pub none_left : (n : Name) (at : ObjNo) → None ≡ get t.objects at → list_any (λ y. defines_name w y n) (chain w at) ≡ list_any (λ y. defines_name w y n) (chain w x) → false ≡ is_some (slot_of w x (folded n))
  none_left n at none any = ap (list_any (λ y. defines_name w y n)) (sym (chain_of_no_row (look_ups t) at none)) ∙ any ∙ chain_has n

  module _ (at : ObjNo) (row : ObjRow) (there : Some row ≡ get t.objects at) where
    step : chain w at ≡ at ∷ chain w row.parent
    step = chain_of_row (look_ups t) good.formed.tree at row there

    -- one of the chain that defines the name
    pub some_left : (n : Name) → defines_name w at n ≡ true → list_any (λ y. defines_name w y n) (chain w at) ≡ list_any (λ y. defines_name w y n) (chain w x) → true ≡ is_some (slot_of w x (folded n))
    some_left n own any = grind (arith, step, or_left, chain_has)

    -- and one that doesn't
    pub rest_left : (n : Name) → defines_name w at n ≡ false → list_any (λ y. defines_name w y n) (chain w row.parent) ≡ list_any (λ y. defines_name w y n) (chain w at)
    rest_left n other = sym (ap (list_any (λ y. defines_name w y n)) step ∙ ap (λ b. b || list_any (λ y. defines_name w y n) (chain w row.parent)) other)

    module _ (above : (d : ObjNo) → is_among d (chain w at) ≡ true → is_among d (chain w x) ≡ true) where
      pub above_next : (d : ObjNo) → is_among d (chain w row.parent) ≡ true → is_among d (chain w x) ≡ true
      above_next d h = above d (ap (is_among d) step ∙ or_right (same_object d at) (is_among d (chain w row.parent)) h)

      -- x has a slot of what one of its chain defines
      pub own_held : (id : PropId) → defines t at id ≡ true → is_some (get t.slots (x, id)) ≡ true
      own_held id own =
          let p = passing (λ (p : PropRow). same_object p.definer at) (get t.props id) own in
          let heir : is_among p.0.definer (chain w x) ≡ true =
          ap (λ d. is_among d (chain w x)) ((same_object-Decides p.0.definer at).0 p.2)
          ∙ above at (is_among_here at at (chain w row.parent) (chain w at) step ((same_object-Decides at at).1 refl)) in
          slot_on_heir t good.sound good.formed x (object_of_chain w p.0.definer x heir) id.0 p.0 p.1 heir
