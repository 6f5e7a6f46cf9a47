use Rattle.moo_store.{proofs.Words.{◌≡◌, ◌+◌, [], ◌∷◌, ◌++◌, take, sym, ap, ◌∙◌, subst, refl, arith, get, take_more, ShowsOrNone, PrintEach}, proofs.Written.{one_more}}
use Rattle.moo_store.proofs.printing.print_each.Goals as goal

pub loop-key-preserved : goal.loop-key-preserved
loop-key-preserved g c =
    let items = c.items-key-items.result.now in
    let x = c.loop-key-item.result in
    let i = c.loop-key.key-index in
    let taken : take (i + 1) items ≡ take i items ++ x ∷ [] = take_more items i x (omega arith) ∙ ap (λ y. take i items ++ y ∷ []) (sym c.loop-key-item.is) in
    subst (λ es. PrintEach (λ key. g.V.Print.prints (get (g.V.KeyedRow.map_of c.args.rows.now.maps) key)) c.push.new.self.items es) (sym taken)
    (subst (λ fs. PrintEach (λ key. g.V.Print.prints (get (g.V.KeyedRow.map_of c.args.rows.now.maps) key)) fs (take i items ++ x ∷ [])) (sym c.in_ok-push.ensures.items)
    (one_more (λ key. g.V.Print.prints (get (g.V.KeyedRow.map_of c.args.rows.now.maps) key)) c.loop-key.cells.items (take i items) (x.0, c.in_ok-print_row.field-0) x c.loop-key.invariant refl (subst (λ old. ShowsOrNone (g.V.Print.prints old) c.in_ok-print_row.field-0 x.1) c.find-old.ensures c.in_ok-print_row.ensures)))
