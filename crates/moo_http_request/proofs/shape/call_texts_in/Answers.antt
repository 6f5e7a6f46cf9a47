use Rattle.moo_http_request.{proofs.Words.{arith, ap, sym, ◌∙◌, ◌≡◌, map, take, length, None, ◌<◌, take_all, take-map, length-map, get_or-map, as_str, view, items_of, texts_of}, proofs.TextLemmas.{texts-strings, texts-broken_at, texts-more}}
use Rattle.moo_http_request.proofs.shape.call_texts_in.Goals as goal

pub returns-in_default : goal.returns-in_default
returns-in_default c =
    let none : as_str (view c.item-item.result) ≡ None = sym c.in_default.ensures in
    let within = c.loop-item-test.true in
    let at = get_or-map view c.args.items.now c.loop-item.item-index c.item-item.result (view c.item-item.result) within
    ∙ ap view (sym c.item-item.is) in
    let within_views : c.loop-item.item-index < length (map view c.args.items.now) = omega (arith, within, length-map c.args.items.now view) in
    sym (texts-broken_at (map view c.args.items.now) _ c.loop-item.item-index (view c.item-item.result) within_views at none
    (take-map view c.loop-item.item-index c.args.items.now ∙ c.loop-item.invariant))

pub returns : goal.returns
returns c =
    let all : take c.loop-item.item-index c.args.items.now ≡ c.args.items.now = take_all _ _ c.loop-item-test.false in
    sym (ap (λ ds. texts_of (items_of ds)) (ap (map view) (sym all) ∙ c.loop-item.invariant) ∙ texts-strings _)

pub loop-item-preserved : goal.loop-item-preserved
loop-item-preserved c =
    texts-more view c.args.items.now c.loop-item.item-index c.item-item.result c.loop-item.texts.items c.push.new.self.items c.in-Some.text c.loop-item-test.true c.item-item.is (sym c.in-Some.ensures) c.in_ok-push.ensures.items c.loop-item.invariant
