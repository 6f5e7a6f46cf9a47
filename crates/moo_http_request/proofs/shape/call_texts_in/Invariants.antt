use Rattle.moo_http_request.proofs.Words.{◌≡◌, map, take, string, view}
use Rattle.moo_http_request.proofs.shape.call_texts_in.Given as goal

abbrev pub invariant-loop-item : goal.invariant-loop-item
invariant-loop-item l = map view (take l.item-index l.items) ≡ map string (map (λ text. text.now) l.texts.items)
