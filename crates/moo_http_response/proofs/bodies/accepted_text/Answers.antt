use Rattle.moo_http_response.{proofs.Words.{ap, ◌∙◌, codes}, proofs.BodyLemmas.{no_float-accepted}}
use Rattle.moo_http_response.proofs.bodies.accepted_text.Goals as goal
use Rattle.serde_json.{specs.Data.{array, put}, proofs.Views.{view-Array}, specs.View.{members_view}, specs.Written.{members_have_float}}

pub print_object-requires : goal.print_object-requires
print_object-requires c =
    let answers = c.in_ok-put.ensures.ok ∙ (λ i. put (codes "answers") ((view-Array c.in_ok-list.list ∙ ap array c.in_ok-list.ensures) i) (members_view (c.new-fields.ensures.empty i))) in
    ap members_have_float (c.in_ok-put-2.ensures.ok ∙ (λ i. put (codes "seq") (c.from.ensures i) (answers i))) ∙ no_float-accepted c.args.answers.now c.args.seq
