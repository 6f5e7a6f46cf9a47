-- A rebuilt world is well formed, where its links and definitions are.
use Rattle.moo_world.{proofs.Words.{arith, ◌≡◌, ◌≢◌, Bool, true, false, cond, List, [], ◌∷◌, refl, sym, ◌∙◌, ap, subst, ◌⊎◌, inl, inr, Option, Some, None, if◌then◌else◌, pos, ◌≤ℤ◌, option_map, list_any, IsDistinct, AllByRecursion, false≢true, both_ways, or_cases, and_parts, none-some, same_Some, ObjNo, Clear, Name, Property, same_text, same_property, folded, is_among, same_object-Decides, same_text-Decides, World, WorldObject, Slot, IsTree, IsWellFormed, Climbs, Chain, NamesDiffer, is_object, location_of, owner_of, slot_of, defined_by, defined_by_any, property_named, has_property, chain, fresh, slot_for, rebuilt, with_slots, without_slots, KeepsLimits, SameButSlots, slot_fits, nothing, ◌||◌}, proofs.Ancestry.Trees.{chain_is, Chain-chain, chain_of_none, nothing_is_no_object}, proofs.Form.Limits.{owner_numbered, fresh_fits}, proofs.Inheritance.Owed.{any-append, definer_among, in_owed, named_owed, named_so}, proofs.Inheritance.Rebuilding.{parents_same, objects_same, owed_same, Chain-same, SameButSlots-rebuilt, slot_of-rebuilt}}

pub same_property-is : (p q : Property) → same_property p q ≡ true → p ≡ q
unfolding same_property
same_property-is p q h = grind (arith, and_parts, same_text, same_object-Decides, same_text-Decides)

-- where names differ, an owed property is the one of its name
pub named_is : (owed : List Property) (p : Property) → NamesDiffer owed → list_any (same_property p) owed ≡ true → property_named owed (folded p.1) ≡ Some p
unfolding IsDistinct
named_is [] p d h = absurd (false≢true h)
named_is (y ∷ owed) p d h = by (same_text (folded y.1) (folded p.1)) refl (or_cases _ _ h) (named_is owed p d.1)
  where
    clash : (l : List Property) → AllByRecursion (λ k. same_text (folded y.1) (folded k.1) ≡ false) l → list_any (same_property p) l ≡ true → same_text (folded y.1) (folded p.1) ≡ true → ⊥
    clash [] a k e = false≢true k
    clash (z ∷ l) a k e = elim (or_cases _ _ k) [
      | inl g ↦ both_ways (same_text (folded y.1) (folded z.1)) a.0 (ap (λ (m : Property). same_text (folded y.1) (folded m.1)) (sym (same_property-is p z g)) ∙ e)
      | inr g ↦ clash l a.1 g e
    ]

    by : (b : Bool) → same_text (folded y.1) (folded p.1) ≡ b → (same_property p y ≡ true) ⊎ (list_any (same_property p) owed ≡ true) → (list_any (same_property p) owed ≡ true → property_named owed (folded p.1) ≡ Some p) → cond b (Some y) (property_named owed (folded p.1)) ≡ Some p
    by true e (inl g) r = ap Some (sym (same_property-is p y g))
    by true e (inr g) r = absurd (clash owed d.0 g e)
    by false e (inl g) r = absurd (both_ways (same_text (folded y.1) (folded p.1)) e ((same_text-Decides (folded y.1) (folded p.1)).1 (ap (λ (m : Property). folded m.1) (sym (same_property-is p y g)))))
    by false e (inr g) r = r g

-- what an object defines is owed to it
pub own_owed : (w : World) (t : IsTree w) (y : ObjNo) (p : Property) → is_object w y ≡ true → list_any (same_property p) (defined_by w y) ≡ true → has_property w y p ≡ true
own_owed w t y p yo mine = first (chain w y) (Chain-chain w t y yo)
  where
    first : (l : List ObjNo) → Chain w y l → in_owed w p l ≡ true
    first [] c = absurd (both_ways (is_object w nothing) (nothing_is_no_object w t) (ap (is_object w) (sym c) ∙ yo))
    first (z ∷ l) c = any-append (same_property p) (defined_by w z) (defined_by_any w l) ∙ ap (λ b. b || in_owed w p l) (subst (λ k. list_any (same_property p) (defined_by w k) ≡ true) c.0 mine)

-- what is owed something is an object
pub owed_is_object : (w : World) (q : ObjNo) (n : Name) (p : Property) → property_named (defined_by_any w (chain w q)) n ≡ Some p → is_object w q ≡ true
owed_is_object w q n p e = grind (arith, chain_of_none)

fresh_definer : (owner : ObjNo) (o : Option Slot) → option_map (λ s. s.definer) (option_map (fresh owner) o) ≡ option_map (λ s. s.definer) o
fresh_definer owner o = grind arith

-- What the links and definitions of s have to be, over a well formed w, for its rebuilt slots to be well formed
pub record MayBeRebuilt (w s : World) (q : ObjNo) : Type 0 where
  pub tree : IsTree s
  pub names : (x : ObjNo) (l : List ObjNo) → Chain s x l → NamesDiffer (defined_by_any s l)
  -- what is newly owed has a slot on q
  pub new : (x : ObjNo) (n : Name) (p : Property) → is_object s x ≡ true → property_named (defined_by_any s (chain s x)) n ≡ Some p → has_property w x p ≡ false → option_map (λ k. k.definer) (slot_of w q n) ≡ Some p.0
  -- no object defines what it did not
  pub own : (x : ObjNo) (p : Property) → is_object s x ≡ true → list_any (same_property p) (defined_by s x) ≡ true → has_property w x p ≡ true
  pub limits : KeepsLimits (without_slots s)

module _ (w s : World) (q : ObjNo) (wf : IsWellFormed w) (may : MayBeRebuilt w s q) where
  abbrev r : World
  r = rebuilt w s q

  same : SameButSlots r s
  same = SameButSlots-rebuilt w s q

  known : (x : ObjNo) (p : Property) → has_property w x p ≡ true → is_object w x ≡ true
  known x p h = grind (arith, chain_of_none)

  -- a kept slot has the definer of what is owed
  old_definer : (x : ObjNo) (n : Name) (p : Property) → has_property w x p ≡ true → folded p.1 ≡ n → option_map (λ k. k.definer) (slot_of w x n) ≡ Some p.0
  old_definer x n p h e =
      let xo = known x p h in
      let c = Chain-chain w wf.tree x xo in
      wf.slots x (chain w x) n xo c
      ∙ ap (λ m. option_map (λ (k : Property). k.0) (property_named (defined_by_any w (chain w x)) m)) (sym e)
      ∙ ap (option_map (λ (k : Property). k.0)) (named_is (defined_by_any w (chain w x)) p (wf.names x (chain w x) c) h)

  definer_is : (x : ObjNo) (n : Name) (o : Option Property) → is_object s x ≡ true → property_named (defined_by_any s (chain s x)) n ≡ o → option_map (λ k. k.definer) (slot_for w s q x n o) ≡ option_map (λ k. k.0) o
  definer_is x n None xo e = refl
  definer_is x n (Some p) xo e = by (has_property w x p) refl
    where
      by : (b : Bool) → has_property w x p ≡ b → option_map (λ k. k.definer) (if b then slot_of w x n else option_map (fresh (owner_of s x)) (slot_of w q n)) ≡ Some p.0
      by b h = grind (arith, old_definer, named_so, fresh_definer)

  slots_rebuilt : (x : ObjNo) (l : List ObjNo) (n : Name) → is_object r x ≡ true → Chain r x l → option_map (λ k. k.definer) (slot_of r x n) ≡ option_map (λ k. k.0) (property_named (defined_by_any r l) n)
  slots_rebuilt x l n xo c =
      let here : chain s x ≡ l = chain_is s may.tree x l (Chain-same r s same x l c) in
      let so : is_object s x ≡ true = sym (objects_same r s same x) ∙ xo in
      ap (option_map (λ (k : Slot). k.definer)) (slot_of-rebuilt w s q x n)
      ∙ definer_is x n (property_named (defined_by_any s (chain s x)) n) so refl
      ∙ ap (λ m. option_map (λ (k : Property). k.0) (property_named (defined_by_any s m) n)) here
      ∙ ap (λ m. option_map (λ (k : Property). k.0) (property_named m n)) (sym (owed_same r s same l))

  -- the slot on a definer was there before
  set_rebuilt : (x : ObjNo) (n : Name) (k : Slot) → slot_of r x n ≡ Some k → k.definer ≡ x → k.state ≢ Clear
  set_rebuilt x n k e d = by (property_named (defined_by_any s (chain s x)) n) refl (sym (slot_of-rebuilt w s q x n) ∙ e)
    where
      by : (o : Option Property) → property_named (defined_by_any s (chain s x)) n ≡ o → slot_for w s q x n o ≡ Some k → k.state ≢ Clear
      by None f g = absurd (none-some k g)
      by (Some p) f g =
          let among = definer_among s p (chain s x) (named_owed s (chain s x) n p f) in
          let so : is_object s x ≡ true = object among.0 in
          let mine : p.0 ≡ x = sym (same_Some k.definer p.0 (sym (ap (option_map (λ (m : Slot). m.definer)) g) ∙ definer_is x n (Some p) so f)) ∙ d in
          let had : has_property w x p ≡ true = may.own x p so (subst (λ m. list_any (same_property p) (defined_by s m) ≡ true) mine among.1) in
          let kept : slot_of w x n ≡ Some k = sym (ap (λ b. if b then slot_of w x n else option_map (fresh (owner_of s x)) (slot_of w q n)) had) ∙ g in
          wf.set x n k kept d
        where
          object : is_among p.0 (chain s x) ≡ true → is_object s x ≡ true
          object h = decide (is_object s x) refl
            where
              decide : (b : Bool) → is_object s x ≡ b → b ≡ true
              decide true v = refl
              decide false v = absurd (false≢true (sym (ap (is_among p.0) (chain_of_none s x v)) ∙ h))

  fit_rebuilt : (x : ObjNo) (n : Name) (k : Slot) → slot_of r x n ≡ Some k → slot_fits k ≡ true
  fit_rebuilt x n k e = by (property_named (defined_by_any s (chain s x)) n) (sym (slot_of-rebuilt w s q x n) ∙ e)
    where
      new : (o : Option Slot) → slot_of w q n ≡ o → option_map (fresh (owner_of s x)) o ≡ Some k → slot_fits k ≡ true
      new o f g = grind (arith, fresh, fresh_fits, owner_numbered)

      kept : (b : Bool) → (if b then slot_of w x n else option_map (fresh (owner_of s x)) (slot_of w q n)) ≡ Some k → slot_fits k ≡ true
      kept true g = wf.fit x n k g
      kept false g = new (slot_of w q n) refl g

      by : (o : Option Property) → slot_for w s q x n o ≡ Some k → slot_fits k ≡ true
      by None g = absurd (none-some k g)
      by (Some p) g = kept (has_property w x p) g

  location_same : location_of r ≡ location_of s
  location_same = (λ i x. sym (bare (r.object x)) i) ∙ ap location_of same ∙ (λ i x. bare (s.object x) i)
    where
      bare : (o : Option WorldObject) → option_map (λ k. k.row.location) (option_map (with_slots (λ n. None)) o) ≡ option_map (λ k. k.row.location) o
      bare o = grind arith

  pub IsTree-rebuilt : IsTree r
  IsTree-rebuilt = record {
    numbers = λ x o. top_kept x (may.tree.numbers x (sym (objects_same r s same x) ∙ o));
    chains = λ x o. let c = may.tree.chains x (sym (objects_same r s same x) ∙ o) in (c.0, subst (λ link. Climbs link x c.0) (sym (parents_same r s same)) c.1);
    locations = λ x o. let c = may.tree.locations x (sym (objects_same r s same x) ∙ o) in (c.0, subst (λ link. Climbs link x c.0) (sym location_same) c.1);
  }
    where
      top_kept : (x : ObjNo) → (pos 0 ≤ℤ x.0) × (x.0 ≤ℤ s.top) → (pos 0 ≤ℤ x.0) × (x.0 ≤ℤ r.top)
      top_kept x h = (h.0, subst (λ t. x.0 ≤ℤ t) (sym (ap (λ (k : World). k.top) same)) h.1)

  -- the rebuilt world is well formed
  pub IsWellFormed-rebuilt : IsWellFormed r
  IsWellFormed-rebuilt = record {
    tree = IsTree-rebuilt;
    names = λ x l c. subst NamesDiffer (sym (owed_same r s same l)) (may.names x l (Chain-same r s same x l c));
    slots = slots_rebuilt;
    set = set_rebuilt;
    fit = fit_rebuilt;
    limits = subst KeepsLimits (sym same) may.limits;
  }
