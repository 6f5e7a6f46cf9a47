use Rattle.moo_http_response.{proofs.Words.{map, pos, ap, ◌∙◌, string, view, object_text}, proofs.BodyLemmas.{one_more, view-String}}
use Rattle.moo_http_response.proofs.look_body.object_literals.Goals as goal
use Rattle.serde_json.specs.declared.value.Value.TheVariants.{String as a_string}

pub loop-x-preserved : goal.loop-x-preserved
loop-x-preserved c =
    ap (map view) c.in_ok-push.ensures.items
    ∙ one_more object_text c.args.objects.now c.loop-x.x-index (record { 0 = pos 0 }) c.loop-x.list.items (a_string c.in_ok-object_literal.field-0) c.loop-x-test.true (view-String c.in_ok-object_literal.field-0 ∙ ap string c.in_ok-object_literal.ensures) c.loop-x.invariant
