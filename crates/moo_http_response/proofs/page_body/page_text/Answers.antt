use Rattle.moo_http_response.{proofs.Words.{ap, ◌∙◌, codes, map}, proofs.BodyLemmas.{no_float-page}, specs.PageBodies.{entry_body, next_data}}
use Rattle.moo_http_response.proofs.page_body.page_text.Goals as goal
use Rattle.serde_json.{specs.Data.{array, put}, proofs.Views.{view-Array}, specs.View.{items_of, members_view}, specs.Written.{members_have_float}}

pub print_object-requires : goal.print_object-requires
print_object-requires c =
    let next = c.in_ok-put_next.ensures ∙ (λ i. put (codes "next") (next_data c.args.page.now.next) (members_view (c.new-fields.ensures.empty i))) in
    let objects = c.in_ok-put.ensures.ok ∙ (λ i. put (codes "objects") ((view-Array c.in_ok-list.list ∙ ap array (c.in_ok-list.ensures ∙ ap (λ entries. items_of (map entry_body entries)) c.items.ensures)) i) (next i)) in
    ap members_have_float (c.in_ok-put-2.ensures.ok ∙ (λ i. put (codes "seq") (c.from.ensures i) (objects i))) ∙ no_float-page c.args.page.now c.args.seq
