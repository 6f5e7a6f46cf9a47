-- A change of parent keeps the world well formed.
use Rattle.moo_world.{proofs.Lemmas.{arith, ◌≡◌, Bool, true, false, ◌||◌, List, [], ◌∷◌, ◌++◌, map, refl, sym, ◌∙◌, ap, subst, ◌⊎◌, inl, Option, Some, None, append_assoc, if◌then◌else◌, option_map, option_or, list_any, IsDistinct, AllByRecursion, both_ways, or_right, none-some, same_Some, ObjNo, Name, Property, nothing, same_object, same_text, same_property, folded, is_among, same_text-Decides, same_property-self, World, WorldObject, with_slots, IsWellFormed, Chain, NamesDiffer, is_object, parent_of, slot_of, defined_by, defined_by_any, property_named, has_property, chain, with_parent, reparented, front_of, Climbs-split, chain_is, Chain-chain, linked, no_parent, nothing_is_no_object, defined_by_any-append, named-append, in_owed, in_owed-append, definer_among, named_owed, NoClash, under_x, MayBeRebuilt, IsWellFormed-rebuilt, own_owed, owed_is_object}, proofs.Ancestry.Moving.{names_moved, object_moved, owed_moved, Chain-new, IsTree-moved, chain_unmoved, chain_moved}}

-- ---- lists of names that differ, joined

pub all_join : {X : Type 0} (P : X → Type 0) (xs ys : List X) → AllByRecursion P xs → AllByRecursion P ys → AllByRecursion P (xs ++ ys)
all_join P [] ys h k = k
all_join P (x ∷ xs) ys h k = (h.0, all_join P xs ys h.1 k)

pub all_left : {X : Type 0} (P : X → Type 0) (xs ys : List X) → AllByRecursion P (xs ++ ys) → AllByRecursion P xs
all_left P [] ys h = tt
all_left P (x ∷ xs) ys h = (h.0, all_left P xs ys h.1)

differ_left : (xs ys : List Property) → NamesDiffer (xs ++ ys) → NamesDiffer xs
unfolding IsDistinct
differ_left [] ys d = tt
differ_left (x ∷ xs) ys d = (all_left (λ y. same_text (folded x.1) (folded y.1) ≡ false) xs ys d.0, differ_left xs ys d.1)

others : (x : Property) (ys : List Property) → property_named ys (folded x.1) ≡ None → AllByRecursion (λ y. same_text (folded x.1) (folded y.1) ≡ false) ys
others x [] e = tt
others x (y ∷ ys) e = grind (arith, others x ys, same_text, same_text-Decides)

differ_join : (xs ys : List Property) → NamesDiffer xs → NamesDiffer ys → ((p : Property) → list_any (same_property p) xs ≡ true → property_named ys (folded p.1) ≡ None) → NamesDiffer (xs ++ ys)
unfolding IsDistinct
differ_join [] ys d e h = e
differ_join (x ∷ xs) ys d e h = (
  all_join (λ y. same_text (folded x.1) (folded y.1) ≡ false) xs ys d.0 (others x ys (h x (ap (λ b. b || list_any (same_property x) xs) (same_property-self x)))),
  differ_join xs ys d.1 e (λ p k. h p (or_right (same_property p x) (list_any (same_property p) xs) k)),
)

module _ (w : World) (x q : ObjNo) (wf : IsWellFormed w) (xo : is_object w x ≡ true) (qo : (is_object w q ≡ true) ⊎ (q ≡ nothing)) (outside : is_among x (chain w q) ≡ false) (apart : NoClash w x q) where
  abbrev s : World
  s = with_parent w x q

  abbrev below : ObjNo → List ObjNo
  below y = front_of x (chain w y) ++ x ∷ []

  module _ (y : ObjNo) (yo : is_object w y ≡ true) (under : is_among x (chain w y) ≡ true) where
    chain_here : chain s y ≡ below y ++ chain w q
    chain_here = chain_moved w x q wf.tree xo qo outside y yo under ∙ sym (append_assoc (front_of x (chain w y)) (x ∷ []) (chain w q))

    chain_before : chain w y ≡ front_of x (chain w y) ++ chain w x
    chain_before = Climbs-split (parent_of w) (no_parent w wf.tree) (chain w y) (chain w x) y x (Chain-chain w wf.tree y yo) (Chain-chain w wf.tree x xo) (inl under)

    -- what is defined below is owed before and clashes with nothing new
    clear_of_new : (p : Property) → in_owed w p (below y) ≡ true → property_named (defined_by_any w (chain w q)) (folded p.1) ≡ None
    clear_of_new p o =
        let d = definer_among w p (below y) o in
        apart p.0 p (under_x w x q wf xo qo outside apart (chain w y) y p.0 (Chain-chain w wf.tree y yo) under d.0) d.1

    starts_at : (l : List ObjNo) → Chain w x l → (m : List ObjNo) × (l ≡ x ∷ m)
    starts_at [] p = absurd (none-some x (sym (sym (no_row x xo p))))
      where
        no_row : (z : ObjNo) → is_object w z ≡ true → z ≡ nothing → None ≡ Some z
        no_row z o e = absurd (both_ways (is_object w nothing) (nothing_is_no_object w wf.tree) (ap (is_object w) (sym e) ∙ o))
    starts_at (z ∷ l) p = (l, λ i. sym p.0 i ∷ l)

    owed_before : (p : Property) → in_owed w p (below y) ≡ true → has_property w y p ≡ true
    owed_before p o =
        let m = starts_at (chain w x) (Chain-chain w wf.tree x xo) in
        let whole : chain w y ≡ below y ++ m.0 = chain_before ∙ ap (λ l. front_of x (chain w y) ++ l) m.1 ∙ sym (append_assoc (front_of x (chain w y)) (x ∷ []) m.0) in
        ap (in_owed w p) whole ∙ in_owed-append w p (below y) m.0 ∙ ap (λ b. b || in_owed w p m.0) o

    names_below : NamesDiffer (defined_by_any w (below y))
    names_below =
        let m = starts_at (chain w x) (Chain-chain w wf.tree x xo) in
        let whole : chain w y ≡ below y ++ m.0 = chain_before ∙ ap (λ l. front_of x (chain w y) ++ l) m.1 ∙ sym (append_assoc (front_of x (chain w y)) (x ∷ []) m.0) in
        differ_left (defined_by_any w (below y)) (defined_by_any w m.0) (subst NamesDiffer (ap (defined_by_any w) whole ∙ defined_by_any-append w (below y) m.0) (wf.names y (chain w y) (Chain-chain w wf.tree y yo)))

    names_here : NamesDiffer (defined_by_any w (below y ++ chain w q))
    names_here = subst NamesDiffer (sym (defined_by_any-append w (below y) (chain w q))) (differ_join (defined_by_any w (below y)) (defined_by_any w (chain w q)) names_below (wf.names q (chain w q) (Chain-new w x q wf.tree xo qo outside)) clear_of_new)

    new_here : (n : Name) (p : Property) → property_named (defined_by_any s (chain s y)) n ≡ Some p → has_property w y p ≡ false → property_named (defined_by_any w (chain w q)) n ≡ Some p
    new_here n p e o = by (property_named (defined_by_any w (below y)) n) refl
      where
        whole : option_or (property_named (defined_by_any w (below y)) n) (property_named (defined_by_any w (chain w q)) n) ≡ Some p
        whole = sym (named-append w (below y) (chain w q) n) ∙ sym (ap (λ k. property_named k n) (owed_moved w x q (chain s y)) ∙ ap (λ l. property_named (defined_by_any w l) n) chain_here) ∙ e

        by : (b : Option Property) → property_named (defined_by_any w (below y)) n ≡ b → property_named (defined_by_any w (chain w q)) n ≡ Some p
        by None g = sym (ap (λ b. option_or b (property_named (defined_by_any w (chain w q)) n)) g) ∙ whole
        by (Some k) g =
            let it : k ≡ p = same_Some k p (sym (ap (λ b. option_or b (property_named (defined_by_any w (chain w q)) n)) g) ∙ whole) in
            absurd (both_ways (has_property w y p) o (owed_before p (named_owed w (below y) n p (g ∙ ap Some it))))

  names_at : (y : ObjNo) → is_object w y ≡ true → NamesDiffer (defined_by_any w (chain s y))
  names_at y yo = by (is_among x (chain w y)) refl
    where
      by : (b : Bool) → is_among x (chain w y) ≡ b → NamesDiffer (defined_by_any w (chain s y))
      by true e = subst (λ l. NamesDiffer (defined_by_any w l)) (sym (chain_here y yo e)) (names_here y yo e)
      by false e = subst (λ l. NamesDiffer (defined_by_any w l)) (sym (chain_unmoved w x q wf.tree xo qo outside y yo e)) (wf.names y (chain w y) (Chain-chain w wf.tree y yo))

  names_moved_differ : (y : ObjNo) (l : List ObjNo) → Chain s y l → NamesDiffer (defined_by_any s l)
  unfolding IsDistinct
  names_moved_differ y [] c = tt
  names_moved_differ y (z ∷ l) c =
      let yo : is_object w y ≡ true = sym (object_moved w x q y) ∙ linked (s.object y) (λ r. r.row.parent) c.1 c.2 in
      subst NamesDiffer (sym (owed_moved w x q (z ∷ l))) (subst (λ m. NamesDiffer (defined_by_any w m)) (chain_is s (IsTree-moved w x q wf.tree xo qo outside) y (z ∷ l) c) (names_at y yo))

  new_slot : (y : ObjNo) (n : Name) (p : Property) → is_object s y ≡ true → property_named (defined_by_any s (chain s y)) n ≡ Some p → has_property w y p ≡ false → option_map (λ k. k.definer) (slot_of w q n) ≡ Some p.0
  new_slot y n p so e o = by (is_among x (chain w y)) refl
    where
      yo : is_object w y ≡ true
      yo = sym (object_moved w x q y) ∙ so

      by : (b : Bool) → is_among x (chain w y) ≡ b → option_map (λ k. k.definer) (slot_of w q n) ≡ Some p.0
      by true u =
          let there = new_here y yo u n p e o in
          wf.slots q (chain w q) n (owed_is_object w q n p there) (Chain-new w x q wf.tree xo qo outside) ∙ ap (option_map (λ k. k.0)) there
      by false u =
          let old : property_named (defined_by_any w (chain w y)) n ≡ Some p = sym (ap (λ k. property_named k n) (owed_moved w x q (chain s y)) ∙ ap (λ l. property_named (defined_by_any w l) n) (chain_unmoved w x q wf.tree xo qo outside y yo u)) ∙ e in
          absurd (both_ways (has_property w y p) o (named_owed w (chain w y) n p old))

  own_slot : (y : ObjNo) (p : Property) → is_object s y ≡ true → list_any (same_property p) (defined_by s y) ≡ true → has_property w y p ≡ true
  own_slot y p so h = own_owed w wf.tree y p (sym (object_moved w x q y) ∙ so) (subst (λ (names : ObjNo → List Name). list_any (same_property p) (map (λ n. (y, n)) (names y)) ≡ true) (names_moved w x q) h)

  -- what reads neither slots nor the parent is as it was
  unread : {A : Type 0} (y : ObjNo) (g : Option WorldObject → A) → ((r : WorldObject) → g (Some (with_slots (λ n. None) (record r { row = record r.row { parent = q } }))) ≡ g (Some (with_slots (λ n. None) r))) → (o : Option WorldObject)
      → g (option_map (with_slots (λ n. None)) (option_map (λ r. if same_object x y then (record r { row = record r.row { parent = q } }) else r) o)) ≡ g (option_map (with_slots (λ n. None)) o)
  unread y g h o = grind arith

  pub MayBeRebuilt-moved : MayBeRebuilt w s q
  MayBeRebuilt-moved = grind (arith, IsTree-moved, names_moved_differ, new_slot, own_slot, unread)

  -- a change of parent keeps the world well formed
  pub IsWellFormed-reparented : IsWellFormed (reparented w x q)
  IsWellFormed-reparented = IsWellFormed-rebuilt w s q wf MayBeRebuilt-moved
