-- The objects that have a link, one after another.
use Rattle.moo_rows.{proofs.Words.{◌≡◌, true, true≢false, [], ◌∷◌, map, Option, None, Some, get, refl, sym, ap, ObjNo, ObjRow, object_exact, Maps, object_cmp, has_link, is_linked, linked_left, row_has, ties_of, IsFirst}, proofs.Firsts.{first-end, first-step}, proofs.Orders.{object_total}, specs.declared.row.Link.{Link}}

module _ (t : Maps) (link : Link) (from : ObjNo) where
  -- the first object with the link, and then those past it
  pub linked_first : (y : ObjNo) → IsFirst object_cmp (is_linked t link) from (Some y) → map (λ e. e.0) (linked_left link from t) ≡ y ∷ map (λ e. e.0) (linked_left link y t)
  linked_first y h =
      let row = some_linked (get t.objects y) h.0 in
      ap (map (λ e. e.0)) (first-step object_total object_exact (λ r. has_link link (ties_of r)) t.objects from y row.0 h row.1)
    where
      some_linked : (o : Option ObjRow) → row_has link o ≡ true → (row : ObjRow) × (o ≡ Some row)
      some_linked None e = absurd (true≢false (sym e))
      some_linked (Some row) e = (row, refl)

  pub linked_end : IsFirst object_cmp (is_linked t link) from None → map (λ e. e.0) (linked_left link from t) ≡ []
  linked_end h = ap (map (λ e. e.0)) (first-end object_total object_exact (λ r. has_link link (ties_of r)) t.objects from h)
