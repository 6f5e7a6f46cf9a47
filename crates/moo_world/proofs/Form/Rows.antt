-- A change of an object's row that keeps its parent: what it keeps of a world.
use Rattle.moo_world.{proofs.Lemmas.{arith, ◌≡◌, true, sym, ◌∙◌, subst, List, unwrap_or, option_map, list_all, ObjNo, ObjRow, World, LocationChain, IsWellFormed, Climbs, is_object, row_of, row_fits, verb_fits, with_row, SameShape}, proofs.Form.Shapes.{agree}, specs.World.{directory_of}}

module _ (w : World) (x : ObjNo) (change : ObjRow → ObjRow) where
  abbrev v : World
  v = with_row w x change

  pub same_objects : (y : ObjNo) → is_object v y ≡ is_object w y
  same_objects y = grind arith

  pub SameShape-with_row : ((r : ObjRow) → (change r).parent ≡ r.parent) → SameShape w v
  SameShape-with_row parent = grind arith

  -- a change that keeps the location keeps the lists of locations
  pub same_places : ((r : ObjRow) → (change r).location ≡ r.location) → IsWellFormed w → (y : ObjNo) → is_object v y ≡ true → (l : List ObjNo) × LocationChain v y l
  same_places location wf y e =
      let p = wf.tree.locations y (sym (same_objects y) ∙ e) in
      (p.0, subst (λ link. Climbs link y p.0) (agree λ z. grind (arith, location)) p.1)

  -- a change that leaves a row fitting leaves all of them so
  pub fitting_rows : ((r : ObjRow) → row_fits r ≡ true → row_fits (change r) ≡ true) → IsWellFormed w → (y : ObjNo) → unwrap_or (option_map row_fits (row_of v y)) true ≡ true
  fitting_rows fits wf y = grind (arith, fits, wf.limits.rows y)

  pub same_directories : IsWellFormed w → (y : ObjNo) → list_all verb_fits (directory_of v y) ≡ true
  same_directories wf y = grind (arith, wf.limits.directories y)
