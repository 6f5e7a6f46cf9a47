use Rattle.moo_http_response.{proofs.Words.{map, ap, ◌∙◌, view}, proofs.BodyLemmas.{one_value_more}, specs.PageBodies.{entry_body}}
use Rattle.moo_http_response.proofs.page_body.entry_values.Goals as goal

pub loop-entry-preserved : goal.loop-entry-preserved
loop-entry-preserved c =
    ap (map view) c.in_ok-push.ensures.items
    ∙ one_value_more entry_body c.args.entries.now c.loop-entry.entry-index c.entry-item.result c.loop-entry.list.items c.in_ok-entry_value.field-0 c.loop-entry-test.true
    (c.in_ok-entry_value.ensures ∙ ap entry_body c.entry-item.is) c.loop-entry.invariant
