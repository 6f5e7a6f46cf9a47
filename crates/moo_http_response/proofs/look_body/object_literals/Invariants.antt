use Rattle.moo_http_response.proofs.Words.{◌≡◌, map, take, string, view, object_text}
use Rattle.moo_http_response.proofs.look_body.object_literals.Given as goal

abbrev pub invariant-loop-x : goal.invariant-loop-x
invariant-loop-x l = map view l.list.items ≡ map string (map object_text (take l.x-index l.objects))
