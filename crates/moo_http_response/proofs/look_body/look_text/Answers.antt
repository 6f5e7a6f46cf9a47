use Rattle.moo_http_response.{proofs.Words.{ap, ◌∙◌}, specs.Fields.{with_links, with_flags}, proofs.BodyLemmas.{no_float-look}}
use Rattle.moo_http_response.proofs.look_body.look_text.Goals as goal
use Rattle.serde_json.{specs.View.{members_view}, specs.Written.{members_have_float}}

pub print_object-requires : goal.print_object-requires
print_object-requires c =
    ap members_have_float (c.in_ok-put_flags.ensures ∙ ap (with_flags c.args.look.now) (c.in_ok-put_links.ensures ∙ ap (λ fields. with_links c.args.look.now (members_view fields)) c.new-fields.ensures.empty))
    ∙ no_float-look c.args.look.now
