-- Nobody's ownership changes by a field, a quota, or a property that is added or has another name.
use Rattle.moo_world.{proofs.Lemmas.{arith, ◌≡◌, Bool, true, false, List, map, refl, sym, ◌∙◌, ap, Option, Some, None, ℤ, ◌&&◌, if◌then◌else◌, option_map, option_and_then, none-some, same_Some, ObjNo, Bits, Change, clashes, property_added, property_renamed, info_set, changed, field_changed, Name, Property, same_object, same_text, folded, is_among, same_text-Decides, KeepsOwnership, name_changed, quota_changed, charged, quota_returned, World, WorldObject, Slot, IsWellFormed, is_object, chain, slot_of, fresh, same_links, rank, face, faced, on_record, on_slot, unchanged, slotted, Chain-chain}, proofs.Inheritance.Insertion.{none_owed}, proofs.Ownership.Created.{chains_same}, proofs.Ownership.Kept.{after}}
use Rattle.moo_world.specs.declared.change.Change.TheVariants as to

-- no field that says who owns or may what is changed
abbrev pub is_modest : Change → Bool
is_modest (to.Owner a) = false
is_modest (to.Player a) = false
is_modest (to.Programmer a) = false
is_modest (to.Wizard a) = false
is_modest change = true

modest_rank : (c : Change) (r : WorldObject) → is_modest c ≡ true → rank (record r { row = changed c r.row }) ≡ rank r
modest_rank c r e = grind arith

ranks_still : (f : WorldObject → List Name) (g : WorldObject → Name → Option Slot) (o : Option WorldObject) → option_map rank (option_map (λ (r : WorldObject). record r { defines = f r; slot = g r }) o) ≡ option_map rank o
ranks_still f g o = grind arith

module _ (w : World) (p : ObjNo) where
  pub by_field_change : (x : ObjNo) (c : Change) → is_modest c ≡ true → KeepsOwnership w (field_changed w x c) p (λ y n. n)
  by_field_change x c modest = on_record w p w x (λ r. record r { row = changed c r.row }) (λ r. modest_rank c r modest) (λ r n e. refl) (unchanged w p)

  -- ---- quotas

  pub by_quota : (v : World) (o : ObjNo) (more : ℤ) → KeepsOwnership w v p (λ y n. n) → KeepsOwnership w (quota_changed v o more) p (λ y n. n)
  by_quota v o more k = grind (arith, on_record, same_text)

  pub by_charge : (v : World) (o : ObjNo) → KeepsOwnership w v p (λ y n. n) → KeepsOwnership w (charged v o) p (λ y n. n)
  by_charge v o k = grind (arith, by_quota)

  pub by_return : (v : World) (o : ObjNo) → KeepsOwnership w v p (λ y n. n) → KeepsOwnership w (quota_returned v o) p (λ y n. n)
  by_return v o k = grind (arith, by_quota)

  -- ---- properties

  -- a slot with the owner that it has
  pub by_info : (x : ObjNo) (n : Name) (owner : ObjNo) (bits : Bits) (s : Slot) → slot_of w x (folded n) ≡ Some s → owner ≡ s.owner → KeepsOwnership w (info_set w x n owner bits) p (λ y n. n)
  by_info x n owner bits s e same = on_slot w p w x n (λ z. record z { owner = owner; bits = bits }) (λ z f. λ i. (z.definer, (same ∙ ap (λ (k : Slot). k.owner) (same_Some s z (sym e ∙ f))) i)) (unchanged w p)

  module _ (wf : IsWellFormed w) (x : ObjNo) (name : Name) (xo : is_object w x ≡ true) (free : clashes w x name ≡ false) where
    -- no slot of that name stands under x
    unnamed : (y : ObjNo) (s : Slot) → is_among x (chain w y) ≡ true → slot_of w y (folded name) ≡ Some s → ⊥
    unnamed y s u e =
        let yo = slotted w y (folded name) s e in
        let c = Chain-chain w wf.tree y yo in
        none-some s.definer (
        ap (option_map (λ (k : Property). k.0)) (sym (none_owed w wf x name s xo free y (chain w y) c u))
        ∙ sym (wf.slots y (chain w y) (folded name) yo c) ∙ ap (option_map (λ (k : Slot). k.definer)) e)

    pub by_defining : (s : Slot) → KeepsOwnership w (property_added w x name s) p (λ y n. n)
    by_defining s = after w p w (property_added w x name s) (λ y n. n) (λ y n. n) (λ y. ranks_still _ _ (w.object y)) faces (unchanged w p)
      where
        faces : (y : ObjNo) (n : Name) (a : Slot) → slot_of w y n ≡ Some a → faced (property_added w x name s) y n ≡ faced w y n
        faces y n a e = grind (arith, same_text, fresh, unnamed, same_text-Decides)

    -- a new name for a property of x, once its slot has been changed
    pub by_renaming : (old : Name) (owner : ObjNo) (bits : Bits) → KeepsOwnership w (info_set w x old owner bits) p (λ y n. n) → KeepsOwnership w (property_renamed (info_set w x old owner bits) x old name) p (name_changed w x old name)
    by_renaming old owner bits k = after w p (info_set w x old owner bits) (property_renamed (info_set w x old owner bits) x old name) (λ y n. n) (name_changed w x old name) (λ y. ranks_still _ _ ((info_set w x old owner bits).object y)) faces k
      where
        moved : (Name → Option Slot) → Bool → Name → Option Slot
        moved slots under m = if under then (if same_text (folded name) m then slots (folded old) else (if same_text (folded old) m then None else slots m)) else slots m

        faces : (y : ObjNo) (n : Name) (a : Slot) → slot_of w y n ≡ Some a → faced (property_renamed (info_set w x old owner bits) x old name) y (name_changed w x old name y n) ≡ faced (info_set w x old owner bits) y n
        faces y n a e = by ((info_set w x old owner bits).object y)
          where
            inner : (r : WorldObject) → is_among x (chain w y) ≡ true → same_text (folded old) n ≡ false → (c : Bool) → same_text (folded name) n ≡ c → (if c then r.slot (folded old) else (if same_text (folded old) n then None else r.slot n)) ≡ r.slot n
            inner r u g true h = absurd (unnamed y a u (ap (slot_of w y) ((same_text-Decides (folded name) n).0 h) ∙ e))
            inner r u g false h = ap (λ c. if c then None else r.slot n) g

            test : (r : WorldObject) (under : Bool) → is_among x (chain w y) ≡ under → (b : Bool) → same_text (folded old) n ≡ b → moved r.slot under (if under && b then folded name else n) ≡ r.slot n
            test r false u b g = refl
            test r true u true g =
                ap (λ c. if c then r.slot (folded old) else (if same_text (folded old) (folded name) then None else r.slot (folded name))) ((same_text-Decides (folded name) (folded name)).1 refl)
                ∙ ap r.slot ((same_text-Decides (folded old) n).0 g)
            test r true u false g = inner r u g (same_text (folded name) n) refl

            by : (o : Option WorldObject) → option_map face (option_and_then (λ (r : WorldObject). r.slot (name_changed w x old name y n)) (option_map (λ (r : WorldObject). record r {
              defines = if same_object x y then map (λ m. if same_text (folded m) (folded old) then name else m) r.defines else r.defines;
              slot = λ m. moved r.slot (is_among x (chain (info_set w x old owner bits) y)) m;
            }) o)) ≡ option_map face (option_and_then (λ (r : WorldObject). r.slot n) o)
            by None = refl
            by (Some r) =
                ap (λ c. option_map face (moved r.slot c (name_changed w x old name y n))) (ap (is_among x) (chains_same (info_set w x old owner bits) w (same_links w x old (λ z. record z { owner = owner; bits = bits })) y))
                ∙ ap (option_map face) (test r (is_among x (chain w y)) refl (same_text (folded old) n) refl)
