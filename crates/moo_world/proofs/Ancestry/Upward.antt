-- A move of an object up its own chain: the checks let it through, and what lay between goes.
use Rattle.moo_world.proofs.Lemmas.{arith, ◌≡◌, Bool, true, false, cond, ◌||◌, List, [], ◌∷◌, ◌++◌, drop, refl, sym, ◌∙◌, ap, subst, ◌⊎◌, inl, inr, Option, Some, None, append_assoc, unwrap_or, if◌then◌else◌, list_any, find, filter, false≢true, both_ways, or_parts, or_right, or_cases, ObjNo, Name, Property, nothing, same_property, folded, is_among, same_object-Decides, same_property-self, World, IsWellFormed, Chain, NamesDiffer, is_object, parent_of, property_names_of, slot_of, defined_by, defined_by_any, property_named, chain, fresh, MayReparent, common, except, lost, gained, unless_defined_by, manual_slot, shares_property_name, front_of, Climbs-split, Climbs-once, Chain-chain, chain_of_none, no_parent, is_among-append, is_among-right, defined_by_any-append, own_pair, in_owed, in_owed-append, definer_among, named_once, some_named, same_object-self, apart_in_chain, except_end, NoClash, own_owed, Chain-either}

pub filter_passes : (t : ObjNo → Bool) (l : List ObjNo) (d : ObjNo) → is_among d (filter t l) ≡ true → t d ≡ true
filter_passes t [] d h = absurd (false≢true h)
filter_passes t (y ∷ l) d h = grind (arith, filter_passes t l d, or_cases, same_object-Decides)

none_any : (t : Property → Bool) (l : List Property) → ((p : Property) → list_any (same_property p) l ≡ true → t p ≡ false) → list_any t l ≡ false
none_any t [] h = refl
none_any t (p ∷ l) h = grind (arith, none_any t l, same_property-self, or_right)

-- where no name clashes the test of the call passes
pub shares_property_name-from_NoClash : (w : World) (x q : ObjNo) → NoClash w x q → shares_property_name w x q ≡ false
shares_property_name-from_NoClash w x q apart = grind (arith, none_any, definer_among, filter_passes)

module _ (w : World) (c q : ObjNo) (between : List ObjNo) (wf : IsWellFormed w) (co : is_object w c ≡ true) (qo : (is_object w q ≡ true) ⊎ (q ≡ nothing)) (split : chain w c ≡ c ∷ between ++ chain w q) where
  Chain-q : Chain w q (chain w q)
  Chain-q = Chain-either w wf.tree q qo

  Chain-c : Chain w c (c ∷ between ++ chain w q)
  Chain-c = subst (Chain w c) split (Chain-chain w wf.tree c co)

  pub climbs_outside : is_among c (chain w q) ≡ false
  climbs_outside = (or_parts (is_among c between) (is_among c (chain w q)) (sym (is_among-append c between (chain w q)) ∙ Climbs-once (parent_of w) (no_parent w wf.tree) (between ++ chain w q) c c Chain-c)).1

  -- ---- no name clashes

  module _ (d : ObjNo) (p : Property) (dobj : is_object w d ≡ true) (under : is_among c (chain w d) ≡ true) (own : list_any (same_property p) (defined_by w d) ≡ true) where
    abbrev below : List ObjNo
    below = front_of c (chain w d) ++ c ∷ between

    whole : chain w d ≡ below ++ chain w q
    whole =
        Climbs-split (parent_of w) (no_parent w wf.tree) (chain w d) (chain w c) d c (Chain-chain w wf.tree d dobj) (Chain-chain w wf.tree c co) (inl under)
        ∙ ap (λ l. front_of c (chain w d) ++ l) split ∙ sym (append_assoc (front_of c (chain w d)) (c ∷ between) (chain w q))

    differ : NamesDiffer (defined_by_any w below ++ defined_by_any w (chain w q))
    differ = subst NamesDiffer (ap (defined_by_any w) whole ∙ defined_by_any-append w below (chain w q)) (wf.names d (chain w d) (Chain-chain w wf.tree d dobj))

    -- d stands below q, so that what it defines is no property of q
    not_above : in_owed w p (chain w q) ≡ true → ⊥
    not_above h =
        let there : is_among d (chain w q) ≡ true = subst (λ k. is_among k (chain w q) ≡ true) ((same_object-Decides p.0 d).0 (own_pair d (property_names_of w d) p own)) (definer_among w p (chain w q) h).0 in
        let again = Climbs-split (parent_of w) (no_parent w wf.tree) (chain w q) (chain w d) q d Chain-q (Chain-chain w wf.tree d dobj) (inl there) in
        both_ways (is_among c (chain w q)) climbs_outside (ap (is_among c) again ∙ is_among-right c (front_of d (chain w q)) (chain w d) under)

    owed_below : in_owed w p below ≡ true
    owed_below = elim (or_cases _ _ (sym (in_owed-append w p below (chain w q)) ∙ sym (ap (in_owed w p) whole) ∙ own_owed w wf.tree d p dobj own)) [ inl g ↦ g | inr g ↦ absurd (not_above g) ]

    no_name : (o : Option Property) → property_named (defined_by_any w below) (folded p.1) ≡ o → property_named (defined_by_any w (chain w q)) (folded p.1) ≡ None
    no_name o e = grind (arith, some_named, owed_below, named_once, differ)

  climbs_apart : NoClash w c q
  climbs_apart d p u k = grind (arith, no_name, chain_of_none)

  pub may_climb : MayReparent w c q
  may_climb = grind (arith, climbs_outside, shares_property_name-from_NoClash, climbs_apart, or_right, same_object-Decides)

  -- ---- what goes

  -- q is the nearest common ancestor
  first : (l : List ObjNo) (z : ObjNo) → Chain w z l → unwrap_or (find (λ d. is_among d (between ++ l)) l) nothing ≡ z
  first [] z p = sym p
  first (y ∷ l) z p =
      ap (λ b. unwrap_or (cond b (Some y) (find (λ d. is_among d (between ++ y ∷ l)) l)) nothing) (is_among-right y between (y ∷ l) (ap (λ b. b || is_among y l) (same_object-self y)))
      ∙ sym p.0

  common_is : common w c q ≡ q
  common_is = ap (λ l. unwrap_or (find (λ d. is_among d (drop 1 l)) (chain w q)) nothing) split ∙ first (chain w q) q Chain-q

  lost_is : lost w c q ≡ between
  lost_is = grind (arith, common_is, except_end, apart_in_chain, no_parent, Chain-c)

  gained_is : gained w c q ≡ []
  gained_is = ap (λ k. except (chain w q) (chain w k)) common_is ∙ except_end [] (chain w q) (λ d h. absurd (false≢true h))

  -- the objects under c lose what is defined in between, and nothing comes
  pub climbed_slot : (y : ObjNo) (n : Name) → manual_slot w c q y n ≡ (if is_among c (chain w y) then unless_defined_by between (slot_of w y n) else slot_of w y n)
  climbed_slot y n = grind (arith, gained_is, fresh, lost_is)
