use Rattle.moo_http_response.{proofs.Words.{map, ap, ◌∙◌, string, view, print}, proofs.BodyLemmas.{one_more, view-String}}
use Rattle.moo_http_response.proofs.bodies.literal_entries.Goals as goal
use Rattle.serde_json.specs.declared.value.Value.TheVariants.{String as a_string}

pub loop-answer-preserved : goal.loop-answer-preserved
loop-answer-preserved c =
    ap (map view) c.in_ok-push.ensures.items
    ∙ one_more print c.args.answers.now c.loop-answer.answer-index c.answer-item.result c.loop-answer.list.items (a_string c.in_ok-literal_text.field-0) c.loop-answer-test.true
    (view-String c.in_ok-literal_text.field-0 ∙ ap string (c.in_ok-literal_text.ensures ∙ ap print c.answer-item.is)) c.loop-answer.invariant
