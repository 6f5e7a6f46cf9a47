use Rattle.moo_http_response.proofs.Words.{◌≡◌, map, take, string, view, print}
use Rattle.moo_http_response.proofs.bodies.literal_entries.Given as goal

abbrev pub invariant-loop-answer : goal.invariant-loop-answer
invariant-loop-answer l = map view l.list.items ≡ map string (map print (take l.answer-index l.answers))
