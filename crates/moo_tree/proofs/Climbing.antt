-- One step up, by the row.
use Rattle.moo_tree.proofs.Words.{◌≡◌, suc, true, ◌∷◌, length, Some, sym, ap, ◌∙◌, int_eq, ObjNo, ObjRow, is_among, same_object-eq, LookUps, world_shown, World, IsTree, chain, is_among_here, chain_of_row}

module _ (m : LookUps) (t : IsTree (world_shown m)) (x : ObjNo) (row : ObjRow) (there : Some row ≡ m.object x) where
  abbrev w : World
  w = world_shown m

  step : chain w x ≡ x ∷ chain w row.parent
  step = chain_of_row m t x row there

  pub one_shorter : length (chain w x) ≡ suc (length (chain w row.parent))
  one_shorter = ap length step

  -- above stands in a chain that it begins
  pub is_here : (above : ObjNo) → true ≡ int_eq x.0 above.0 → is_among above (chain w x) ≡ true
  is_here above e = is_among_here above x (chain w row.parent) (chain w x) step (sym (same_object-eq above x) ∙ sym e)
