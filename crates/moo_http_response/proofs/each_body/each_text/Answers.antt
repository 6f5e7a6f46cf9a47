use Rattle.moo_http_response.{proofs.Words.{ap, ◌∙◌, codes}, proofs.EachLemmas.{no_float-each}, specs.EachBodies.{each_items}, specs.Whys.{whys_shown}}
use Rattle.moo_http_response.proofs.each_body.each_text.Goals as goal
use Rattle.serde_json.{specs.Data.{array, put}, proofs.Views.{view-Array}, specs.View.{items_of, members_view}, specs.Written.{members_have_float}}

pub print_object-requires : goal.print_object-requires
print_object-requires c =
    let whys = whys_shown c.args.whys.now in
    let each = c.in_ok-put.ensures.ok ∙ (λ i. put (codes "each") ((view-Array c.in_ok-list.list ∙ ap array (c.in_ok-list.ensures ∙ ap (λ replies. items_of (each_items whys replies)) c.items.ensures)) i) (members_view (c.new-fields.ensures.empty i))) in
    ap members_have_float (c.in_ok-put-2.ensures.ok ∙ (λ i. put (codes "seq") (c.from.ensures i) (each i))) ∙ no_float-each whys c.args.replies.now c.args.seq
