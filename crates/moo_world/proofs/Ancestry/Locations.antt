-- The laws of locations in a world: what an object lies in, at any depth.
use Rattle.moo_world.proofs.Lemmas.{arith, ◌≡◌, false, true, List, [], ◌∷◌, sym, ◌∙◌, ap, subst, Some, None, is_some, option_map, none-some, same_Some, ObjNo, ObjRow, nothing, World, WorldObject, IsTree, LocationChain, is_object, location_of, location_chain, numbers_to, LookUps, world_shown, object_shown, Climbs-bound, climb_is, NumbersBelow, object_seen, no_object_seen, no_link, nothing_is_no_object}

module _ (w : World) (t : IsTree w) where
  pub no_location : location_of w nothing ≡ None
  no_location = no_link (w.object nothing) (λ r. r.row.location) (nothing_is_no_object w t)

  locations_below : NumbersBelow (location_of w) (numbers_to w.top)
  locations_below x next e = grind arith

  -- the locations are the list that `locations` computes
  pub places_is : (x : ObjNo) (l : List ObjNo) → LocationChain w x l → location_chain w x ≡ l
  unfolding location_chain
  places_is x l p = climb_is (location_of w) no_location (numbers_to w.top) l x p (Climbs-bound (location_of w) (numbers_to w.top) no_location locations_below l x p)

  pub LocationChain-location_chain : (x : ObjNo) → is_object w x ≡ true → LocationChain w x (location_chain w x)
  LocationChain-location_chain x e = let c = t.locations x e in subst (LocationChain w x) (sym (places_is x c.0 c.1)) c.1

  -- one step out
  pub location_chain-step : (x : ObjNo) (r : WorldObject) → w.object x ≡ Some r → location_chain w x ≡ x ∷ location_chain w r.row.location
  location_chain-step x r e = first (location_chain w x) (LocationChain-location_chain x (ap is_some e))
    where
      out : location_of w x ≡ Some r.row.location
      out = ap (λ o. option_map (λ (k : WorldObject). k.row.location) o) e

      first : (l : List ObjNo) → LocationChain w x l → l ≡ x ∷ location_chain w r.row.location
      first [] p = absurd (none-some r.row.location (sym no_location ∙ sym (ap (location_of w) p) ∙ out))
      first (y ∷ l) p =
          let same : p.1 ≡ r.row.location = same_Some p.1 r.row.location (sym p.2 ∙ out) in
          let rest : l ≡ location_chain w r.row.location = sym (places_is r.row.location l (subst (λ n. LocationChain w n l) same p.3)) in
          λ i. sym p.0 i ∷ rest i

-- what is no object has no locations
pub places_of_none : (w : World) (x : ObjNo) → is_object w x ≡ false → location_chain w x ≡ []
unfolding location_chain
places_of_none w x e = grind arith

-- ---- by the rows

-- one step out, by the row
pub places_of_row : (m : LookUps) → IsTree (world_shown m) → (x : ObjNo) (row : ObjRow) → Some row ≡ m.object x → location_chain (world_shown m) x ≡ x ∷ location_chain (world_shown m) row.location
places_of_row m t x row e = location_chain-step (world_shown m) t x (object_shown m x row) (object_seen m x row (sym e))

pub places_of_no_row : (m : LookUps) (x : ObjNo) → None ≡ m.object x → location_chain (world_shown m) x ≡ []
places_of_no_row m x e = places_of_none (world_shown m) x (no_object_seen m x (sym e))
