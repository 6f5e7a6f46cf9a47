-- The names that objects define once another row, or none, is under the number of a property of x.
use Rattle.moo_props.{proofs.Words.{arith, ◌≡◌, ℕ, Bool, true, false, eqb, Option, None, Some, refl, sym, ◌∙◌, if◌then◌else◌, option_and_then, get, eqb-true, eq-eqb, ObjNo, PropRow, Maps, Name, same_object, same_text, folded, same_object-Decides, same_text-Decides, LookUps, IsGood, look_ups, prop_id}, proofs.Gains.{one_prop}}

module _ (t : Maps) (good : IsGood t) (x : ObjNo) (id : ℕ) (p : PropRow) (there : get t.props (prop_id id) ≡ Some p) (own : p.definer ≡ x) where
  abbrev m : LookUps
  m = look_ups t

  -- x defines no other property of the name
  pub only : (j : ℕ) (r : PropRow) → m.prop j ≡ Some r → r.definer ≡ x → folded r.name ≡ folded p.name → eqb j id ≡ true
  only j r e d n = eq-eqb j id (one_prop t good.sound good.formed j id r p e there (d ∙ sym own) n)

  abbrev name_in : ObjNo → Option PropRow → Option Name
  name_in y o = option_and_then (λ (r : PropRow). if same_object r.definer y then Some r.name else None) o

  module _ (put : Option PropRow) where
    -- those of x are changed at the name alone
    pub own_names : (change : Option Name → Option Name) → change None ≡ None → change (Some p.name) ≡ name_in x put → ((n : Name) → same_text (folded n) (folded p.name) ≡ false → change (Some n) ≡ Some n)
        → (j : ℕ) → name_in x (if eqb j id then put else m.prop j) ≡ change (name_in x (m.prop j))
    own_names change none it others j = by (eqb j id) refl (m.prop j) refl
      where
        stays : (r : PropRow) → m.prop j ≡ Some r → eqb j id ≡ false → (c : Bool) → same_object r.definer x ≡ c → (if c then Some r.name else None) ≡ change (if c then Some r.name else None)
        stays r e f c g = grind (arith, none, others r.name, only j r e, same_object-Decides, same_text-Decides)

        by : (b : Bool) → eqb j id ≡ b → (o : Option PropRow) → m.prop j ≡ o → name_in x (if b then put else o) ≡ change (name_in x o)
        by b f o e = grind (arith, eqb-true j id, there, own, (same_object-Decides p.definer x).1 own, it, none, stays)

    -- and those of another object stay, if the row isn't its own
    pub other_names : (y : ObjNo) → same_object x y ≡ false → name_in y put ≡ None → (j : ℕ) → name_in y (if eqb j id then put else m.prop j) ≡ name_in y (m.prop j)
    other_names y e not_its j = grind (arith, eqb-true)
