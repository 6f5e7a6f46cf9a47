use Rattle.std.{proofs.Common.{map, rules, ◌≡◌}, proofs.lemmas.List.{nil_from_length}}
use Rattle.moo_memory.{proofs.Words.{◌++◌, [], ◌∷◌, sym, ap, ◌∙◌, append_assoc, append-nil}, proofs.Overlays.{overlaid-none}}
use Rattle.moo_rows.{specs.Links.{linked_left}, proofs.Listing.{linked_first, linked_end}}
use Rattle.moo_memory.proofs.draft.DraftRows.list_linked.Goals as goal

pub loop-y-preserved : goal.loop-y-preserved
loop-y-preserved g c =
    let t = c.args.self.now.maps in
    let y = c.in-Some.y in
    let left = map (λ e. e.0) (linked_left c.args.link y t) in
    ap (λ l. l ++ left) c.in_ok-push.ensures.items
    ∙ append_assoc c.loop-y.list.items (y ∷ []) left
    ∙ ap (λ l. c.loop-y.list.items ++ l) (sym (linked_first t c.args.link c.loop-y.last y c.in-Some.ensures))
    ∙ c.loop-y.invariant

pub returns-then-is_empty : goal.returns-then-is_empty
returns-then-is_empty g c =
    let below = (g.R.Rows.held c.self.inside.base.now).maps in
    let none : c.self.inside.objects.entries ≡ [] = nil_from_length c.self.inside.objects.entries (search rules) in
    let same = sym (overlaid-none below.objects c.self.inside.objects none) in
    rw (← c.self.view_is) (c.in_ok-list_linked.ensures
    ∙ ap (λ objects. c.args.list.now.items ++ map (λ e. e.0) (linked_left c.args.link c.args.after (record below { objects = objects }))) same)

pub returns : goal.returns
returns g c =
    let t = c.args.self.now.maps in
    sym (append-nil c.loop-y.list.items)
    ∙ ap (λ l. c.loop-y.list.items ++ l) (sym (linked_end t c.args.link c.loop-y.last c.in_default.ensures))
    ∙ c.loop-y.invariant
