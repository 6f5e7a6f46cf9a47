use Rattle.moo_http_response.{proofs.Words.{List, ◌++◌, ◌+◌, map, ap, drop, ◌∙◌, view}, proofs.EachLemmas.{each-more}, specs.EachBodies.{alone_body, each_items}, specs.Whys.{whys_shown}}
use Rattle.moo_http_response.proofs.each_body.each_entries.Goals as goal
use Rattle.serde_json.specs.declared.value.Value.{Value as Json}

pub loop-i-preserved : goal.loop-i-preserved
loop-i-preserved c =
    let whys = whys_shown c.args.whys.now in
    ap (λ (vs : List Json). map view vs ++ each_items (drop (c.loop-i.i + 1) whys) (drop (c.loop-i.i + 1) c.args.replies.now)) c.in_ok-push.ensures.items
    ∙ each-more whys c.args.replies.now c.loop-i.i c.index-replies-i.result c.loop-i.list.items c.in_ok-alone_entry.field-0 c.loop-i-test.true
    (c.in_ok-alone_entry.ensures ∙ (λ j. alone_body (c.why_of.ensures j) (c.index-replies-i.is j))) c.loop-i.invariant
