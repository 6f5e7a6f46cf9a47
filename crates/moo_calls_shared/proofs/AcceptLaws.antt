-- The accept list that counts, one object further up.
use Rattle.std.{proofs.Common.{◌≡◌, sym, ◌∙◌, ap, Some, None}, specs.Option.{option_map, option_and_then, option_or}}
use Rattle.moo_value.specs.declared.value.ObjNo.{ObjNo}
use Rattle.moo_rows.specs.declared.row.ObjRow.{ObjRow}
use Rattle.moo_world.{specs.World.{IsTree, row_of, chain}, specs.Rows.{LookUps, world_shown, object_shown}, specs.Rights.{accept_along}, proofs.Shown.Seen.{chain_of_row, chain_of_no_row}}

module _ (m : LookUps) where
  list_of_row : (at : ObjNo) (row : ObjRow) → Some row ≡ m.object at → option_and_then (λ r. r.accept) (row_of (world_shown m) at) ≡ row.accept
  unfolding world_shown
  list_of_row at row e = ap (λ o. option_and_then (λ (r : ObjRow). r.accept) (option_map (λ r. r.row) (option_map (object_shown m at) o))) (sym e)

  pub accept_of_row : IsTree (world_shown m) → (at : ObjNo) (row : ObjRow) → Some row ≡ m.object at → accept_along (world_shown m) (chain (world_shown m) at) ≡ option_or row.accept (accept_along (world_shown m) (chain (world_shown m) row.parent))
  accept_of_row t at row e =
      ap (accept_along (world_shown m)) (chain_of_row m t at row e)
      ∙ ap (λ o. option_or o (accept_along (world_shown m) (chain (world_shown m) row.parent))) (list_of_row at row e)

  pub accept_of_no_row : (at : ObjNo) → None ≡ m.object at → accept_along (world_shown m) (chain (world_shown m) at) ≡ None
  accept_of_no_row at e = ap (accept_along (world_shown m)) (chain_of_no_row m at e)
