-- Clashes of names, by what each object defines itself.
use Rattle.moo_props.{proofs.Words.{arith, ◌||◌, ◌≡◌, Bool, None, Option, Some, List, [], ◌∷◌, ◌++◌, map, refl, sym, ap, ◌∙◌, is_some, unwrap_or, if◌then◌else◌, option_map, option_or, int_eq, filter, find, list_any, entries, is_object, IsGood, PropId, PropRow, Slot, ObjNo, defined_left, Maps, clashes, subtree_of, Name, Property, nothing, same_object, same_text, folded, defines_name, first_to_define, first_to_meet, walk_down, World, IsWellFormed, chain, Chain-chain, chain_of_none, no_slot, property_names_of, defined_by, defined_by_any, definer_of_name, definer_of_slot, property_named, slot_of, shares_property_name, IsSound, world_of, prop_id, any-append, any_map, meets_on}, proofs.Shared.{has_owed}, proofs.DefinedNames.{names_listed}, proofs.Descending.{any_walked}, proofs.Walked.{found_any}, proofs.WholeWalks.{props_all}}
use Rattle.std.proofs.lemmas.List.Folds.{find-append}

-- ---- the first that passes

-- what is found, by whether any is
first_if_any : {A : Type 0} (found : Option A) (any : Bool) (other : A) → is_some found ≡ any → found ≡ (if any then Some (unwrap_or found other) else None)
first_if_any found any other e = grind arith

map_or : {A B : Type 0} (f : A → B) (a b : Option A) → option_map f (option_or a b) ≡ option_or (option_map f a) (option_map f b)
map_or f o b = grind arith

first_or : {A : Type 0} (test : A → Bool) (a : A) (l : List A) → option_or (if test a then Some a else None) (find test l) ≡ find test (a ∷ l)
first_or test a l = grind arith

-- ---- what the objects of a list define

module _ (w : World) where
  -- what passes of what is owed, object by object
  pub any_owed_by : (test : Property → Bool) (l : List ObjNo) → list_any test (defined_by_any w l) ≡ list_any (λ y. list_any (λ n. test (y, n)) (property_names_of w y)) l
  any_owed_by test [] = refl
  any_owed_by test (y ∷ l) = any-append test (defined_by w y) (defined_by_any w l) ∙ (λ i. any_map test (λ n. (y, n)) (property_names_of w y) i || any_owed_by test l i)

  -- y defines the name
  own_definer : (y : ObjNo) (n : Name) (names : List Name) → option_map (λ (p : Property). p.0) (find (λ p. same_text (folded p.1) n) (map (λ m. (y, m)) names)) ≡ (if list_any (λ m. same_text (folded m) n) names then Some y else None)
  own_definer y n [] = refl
  own_definer y n (m ∷ names) = grind (arith, own_definer y n names)

  -- the first of them that defines the name
  first_defines : (l : List ObjNo) (n : Name) → find (λ y. defines_name w y n) l ≡ definer_of_name (defined_by_any w l) (folded n)
  first_defines [] n = refl
  first_defines (y ∷ l) n = grind (arith, first_or, own_definer, map_or, find-append, first_defines l)

  -- one of them defines the name
  pub any_defines : (l : List ObjNo) (n : Name) → list_any (λ y. defines_name w y n) l ≡ is_some (property_named (defined_by_any w l) (folded n))
  any_defines l n = sym (found_any (λ p. same_text (folded p.1) (folded n)) (defined_by_any w l) ∙ any_owed_by (λ p. same_text (folded p.1) (folded n)) l)

  -- one under x defines a name that new has
  pub any_meets : (x new : ObjNo) → list_any (meets_on w new) (subtree_of w x) ≡ shares_property_name w x new
  any_meets x new = sym (any_owed_by (λ p. is_some (property_named (defined_by_any w (chain w new)) (folded p.1))) (subtree_of w x))

  module _ (wf : IsWellFormed w) where
    -- the first above x that defines the name is the definer of x's slot
    first_above : (x : ObjNo) (n : Name) → find (λ y. defines_name w y n) (chain w x) ≡ definer_of_slot w x (folded n)
    first_above x n = grind (arith, first_defines, Chain-chain, chain_of_none, no_slot)

    -- y defines a name of a slot that new has
    pub meets_by_slots : (new y : ObjNo) → list_any (λ m. is_some (slot_of w new (folded m))) (property_names_of w y) ≡ meets_on w new y
    meets_by_slots new y = λ i. list_any (λ m. has_owed w wf new (folded m) i) (property_names_of w y)

-- ---- by the rows

module _ (t : Maps) (sound : IsSound t) where
  -- a name that passes, by the rows
  pub any_defined : (p : Name → Bool) (y : ObjNo) → list_any (λ e. p e.1.name) (defined_left y (prop_id 0) t) ≡ list_any p (property_names_of (world_of t) y)
  unfolding same_object
  any_defined p y =
      ap (λ (es : List (PropId × PropRow)). list_any (λ e. p e.1.name) (filter (λ e. int_eq e.1.definer.0 y.0) es)) (props_all t sound)
      ∙ sym (any_map p (λ e. e.1.name) (filter (λ e. int_eq e.1.definer.0 y.0) (entries t.props)))
      ∙ ap (list_any p) (names_listed t sound y)

-- ---- who clashes

module _ (t : Maps) (good : IsGood t) (x : ObjNo) where
  abbrev w : World
  w = world_of t

  -- the first that defines a name which the new parent has
  pub first_meeting : (new : ObjNo) → find (meets_on w new) (walk_down w x) ≡ (if shares_property_name w x new then Some (first_to_meet w x new) else None)
  first_meeting new = grind (arith, first_if_any, found_any, any_walked, any_meets)

  module _ (n : Name) where
    abbrev defines_it : ObjNo → Bool
    defines_it y = defines_name w y n

    -- the first that defines the name
    first_definer : find defines_it (chain w x ++ walk_down w x) ≡ (if clashes w x n then Some (first_to_define w x n) else None)
    first_definer = grind (arith, first_if_any, found_any, any-append, any_defines, any_walked)

    by_slot : option_or (definer_of_slot w x (folded n)) (find defines_it (walk_down w x)) ≡ (if clashes w x n then Some (first_to_define w x n) else None)
    by_slot = grind (arith, first_above, find-append, first_definer)

    -- it is the definer of x's slot, and if x has none it is the first in the walk down
    pub definer_above : (s : Slot) → Some s ≡ slot_of w x (folded n) → Some s.definer ≡ (if clashes w x n then Some (first_to_define w x n) else None)
    definer_above s e = ap (λ o. option_or (option_map (λ (s : Slot). s.definer) o) (find defines_it (walk_down w x))) e ∙ by_slot

    pub definer_under : (found : Option ObjNo) → None ≡ slot_of w x (folded n) → found ≡ find defines_it (walk_down w x) → found ≡ (if clashes w x n then Some (first_to_define w x n) else None)
    definer_under found e under = under ∙ ap (λ o. option_or (option_map (λ (s : Slot). s.definer) o) (find defines_it (walk_down w x))) e ∙ by_slot
