-- A list along a link, where one object's link is changed.
use Rattle.moo_world.proofs.Lemmas.{arith, ◌≡◌, true, false, List, [], ◌∷◌, ◌++◌, refl, Option, Some, false≢true, or_parts, ObjNo, same_object, is_among, same_object-Decides, Climbs, front_of}

module _ (link moved : ObjNo → Option ObjNo) (x q : ObjNo) (other : (y : ObjNo) → same_object x y ≡ false → moved y ≡ link y) (here : moved x ≡ Some q) (to : List ObjNo) (new : Climbs link q to) (outside : is_among x to ≡ false) where
  unmoved : (l : List ObjNo) (z : ObjNo) → Climbs link z l → is_among x l ≡ false → Climbs moved z l
  unmoved [] z p h = p
  unmoved (y ∷ l) z p h = grind (arith, unmoved l p.1 p.3, or_parts)

  from_x : Climbs moved x (x ∷ to)
  from_x = (refl, q, here, unmoved to q new outside)

  through_x : (l : List ObjNo) (z : ObjNo) → Climbs link z l → is_among x l ≡ true → Climbs moved z (front_of x l ++ x ∷ to)
  through_x [] z p h = absurd (false≢true h)
  through_x (y ∷ l) z p h = grind (arith, through_x l p.1 p.3, front_of, same_object-Decides, from_x)

  -- where x isn't in the list of its new place, each list along the old link has one along the new
  pub redirected : (l : List ObjNo) (z : ObjNo) → Climbs link z l → (m : List ObjNo) × Climbs moved z m
  redirected l z p = grind (arith, front_of, through_x, unmoved)
