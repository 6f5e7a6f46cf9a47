use Rattle.std.proofs.Common.{map}
use Rattle.moo_memory.proofs.Keeping.{kept-exactly}
use Rattle.moo_memory.proofs.Words.{Held, contents, get, object_cmp, row_has, ◌++◌, [], ◌∷◌, sym, ap, ◌∙◌, append_assoc, append-nil}
use Rattle.moo_rows.{specs.Links.{linked_left}, proofs.Listing.{linked_first, linked_end}}
use Rattle.moo_memory.proofs.flat.FlatRows.list_linked.Goals as goal

pub loop-y-preserved : goal.loop-y-preserved
loop-y-preserved c =
    let t = c.args.self.now.maps in
    let y = c.in-Some-next_linked.y in
    let left = map (λ e. e.0) (linked_left c.args.link y t) in
    ap (λ l. l ++ left) c.in_ok-push-in-None.ensures.items
    ∙ append_assoc c.loop-y.list.items (y ∷ []) left
    ∙ ap (λ l. c.loop-y.list.items ++ l) (sym (linked_first t c.args.link c.loop-y.last y c.in-Some-next_linked.ensures))
    ∙ c.loop-y.invariant

pub returns-in_default : goal.returns-in_default
returns-in_default c =
    let t = c.args.self.now.maps in
    sym (append-nil c.loop-y.list.items)
    ∙ ap (λ l. c.loop-y.list.items ++ l) (sym (linked_end t c.args.link c.loop-y.last c.in_default.ensures))
    ∙ c.loop-y.invariant

pub returns-in-Some : goal.returns-in-Some
returns-in-Some c =
    let kept = kept-exactly (get (contents object_cmp c.self.inside.objects)) c.self.inside.links c.self.invariant.0 c.self.invariant.3 c.args.link c.in-Some.ensures.0 in
    c.list_tied.ensures c.args.self.now.maps c.args.link
    (λ q. c.in-Some.ensures.1 q ∙ kept q ∙ ap (λ (held : Held). row_has c.args.link (get held.maps.objects q)) c.self.view_is)
