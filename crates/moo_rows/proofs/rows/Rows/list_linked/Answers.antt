use Rattle.moo_rows.{proofs.Words.{◌++◌, [], ◌∷◌, sym, ap, ◌∙◌, append_assoc, append-nil, map, linked_left}, proofs.Listing.{linked_first, linked_end}}
use Rattle.moo_rows.proofs.rows.Rows.list_linked.Goals as goal

pub loop-y-preserved : goal.loop-y-preserved
loop-y-preserved g c =
    let t = (g.Self.Rows.held c.args.self.now).maps in
    let y = c.in-Some.y in
    let left = map (λ e. e.0) (linked_left c.args.link y t) in
    ap (λ l. l ++ left) c.in_ok-push.ensures.items
    ∙ append_assoc c.loop-y.list.items (y ∷ []) left
    ∙ ap (λ l. c.loop-y.list.items ++ l) (sym (linked_first t c.args.link c.loop-y.last y c.in-Some.ensures))
    ∙ c.loop-y.invariant

pub returns : goal.returns
returns g c =
    let t = (g.Self.Rows.held c.args.self.now).maps in
    sym (append-nil c.loop-y.list.items)
    ∙ ap (λ l. c.loop-y.list.items ++ l) (sym (linked_end t c.args.link c.loop-y.last c.in_default.ensures))
    ∙ c.loop-y.invariant
