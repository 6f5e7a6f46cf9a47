-- The properties that an object itself defines, by its slots, and names that clash.
use Rattle.std.{proofs.Common.{◌≡◌, Bool, true, false, cond, ◌||◌, Option, None, Some, List, [], ◌∷◌, refl, sym, ap, ◌∙◌, subst}, specs.Prelude.{is_some, unwrap_or}, specs.Option.{option_map, option_or, option_and_then}, specs.List.{find, list_any}, proofs.lemmas.Bool.{both_ways}}
use Rattle.moo_value.specs.declared.value.ObjNo.{ObjNo}
use Rattle.moo_world.{specs.Objects.{Name, Property, same_object, same_text, same_property, folded, is_among, same_object-Decides, same_property-self}, specs.World.{World, WorldObject, Slot, IsWellFormed, Chain, chain, parent_of, property_names_of, defined_by, defined_by_any, property_named, slot_of}, specs.PropertyCalls.{defines_name}, proofs.Ancestry.Chains.{Climbs-once}, proofs.Inheritance.Owed.{find-append, found_among, own_pair, definer_among, named_owed}, proofs.Ancestry.Trees.{Chain-chain, chain-step, no_parent}, proofs.Shown.PairLists.{any_map}}

-- whether x is the definer of a slot
abbrev pub owns_slot : ObjNo → Option Slot → Bool
owns_slot x found = unwrap_or (option_map (λ s. same_object s.definer x) found) false

found_any : {A : Type 0} (test : A → Bool) (l : List A) → is_some (find test l) ≡ list_any test l
found_any test [] = refl
found_any test (a ∷ l) = by (test a) (found_any test l)
  where
    by : (b : Bool) → is_some (find test l) ≡ list_any test l → is_some (cond b (Some a) (find test l)) ≡ (b || list_any test l)
    by true r = refl
    by false r = r

module _ (w : World) (wf : IsWellFormed w) (x : ObjNo) (n : Name) where
  abbrev has_name : Property → Bool
  has_name p = same_text (folded p.1) (folded n)

  own_any : list_any has_name (defined_by w x) ≡ defines_name w x n
  own_any = any_map has_name (λ m. (x, m)) (property_names_of w x)

  by_definer : (o : Option Slot) (p : Option Property) → option_map (λ s. s.definer) o ≡ option_map (λ p. p.0) p → owns_slot x o ≡ unwrap_or (option_map (λ p. same_object p.0 x) p) false
  by_definer o p e = seen o ∙ ap (λ d. unwrap_or (option_map (λ y. same_object y x) d) false) e ∙ shown p
    where
      seen : (o : Option Slot) → owns_slot x o ≡ unwrap_or (option_map (λ y. same_object y x) (option_map (λ s. s.definer) o)) false
      seen None = refl
      seen (Some s) = refl

      shown : (p : Option Property) → unwrap_or (option_map (λ y. same_object y x) (option_map (λ p. p.0) p)) false ≡ unwrap_or (option_map (λ p. same_object p.0 x) p) false
      shown None = refl
      shown (Some q) = refl

  module _ (r : WorldObject) (here : w.object x ≡ Some r) where
    abbrev up : List ObjNo
    up = chain w r.row.parent

    own_chain : Chain w x (x ∷ up)
    own_chain = subst (Chain w x) (chain-step w wf.tree x r here) (Chain-chain w wf.tree x (ap is_some here))

    -- what an ancestor defines x doesn't
    above : (q : Property) → property_named (defined_by_any w up) (folded n) ≡ Some q → same_object q.0 x ≡ false
    above q e = by (same_object q.0 x) refl
      where
        by : (b : Bool) → same_object q.0 x ≡ b → b ≡ false
        by false g = refl
        by true g = absurd (both_ways (is_among x up) (Climbs-once (parent_of w) (no_parent w wf.tree) up x x own_chain) (ap (λ y. is_among y up) (sym ((same_object-Decides q.0 x).0 g)) ∙ (definer_among w q up (named_owed w up (folded n) q e)).0))

    at_first : (a b : Option Property) → find has_name (defined_by w x) ≡ a → property_named (defined_by_any w up) (folded n) ≡ b → unwrap_or (option_map (λ p. same_object p.0 x) (option_or a b)) false ≡ is_some a
    at_first (Some p) b e f = own_pair x (property_names_of w x) p (found_among has_name (same_property p) (defined_by w x) p (same_property-self p) e)
    at_first None None e f = refl
    at_first None (Some q) e f = above q f

    owned : owns_slot x (slot_of w x (folded n)) ≡ defines_name w x n
    owned =
        by_definer (slot_of w x (folded n)) (property_named (defined_by_any w (x ∷ up)) (folded n)) (wf.slots x (x ∷ up) (folded n) (ap is_some here) own_chain)
        ∙ ap (λ p. unwrap_or (option_map (λ p. same_object p.0 x) p) false) (find-append has_name (defined_by w x) (defined_by_any w up))
        ∙ at_first (find has_name (defined_by w x)) (property_named (defined_by_any w up) (folded n)) refl refl
        ∙ found_any has_name (defined_by w x) ∙ own_any

  -- x defines the property of a name just where its slot has it as definer
  pub owns_by_slot : owns_slot x (slot_of w x (folded n)) ≡ defines_name w x n
  owns_by_slot = by (w.object x) refl
    where
      by : (o : Option WorldObject) → w.object x ≡ o → owns_slot x (slot_of w x (folded n)) ≡ defines_name w x n
      by None e = ap (λ o. owns_slot x (option_and_then (λ r. r.slot (folded n)) o)) e ∙ sym (ap (λ o. list_any (λ m. same_text (folded m) (folded n)) (unwrap_or (option_map (λ (r : WorldObject). r.defines) o) [])) e)
      by (Some r) e = owned r e
