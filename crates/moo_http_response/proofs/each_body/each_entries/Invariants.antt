use Rattle.moo_http_response.{proofs.Words.{◌≡◌, ◌++◌, map, drop, view}, specs.EachBodies.{each_items}, specs.Whys.{whys_shown}}
use Rattle.moo_http_response.proofs.each_body.each_entries.Given as goal

abbrev pub invariant-loop-i : goal.invariant-loop-i
invariant-loop-i l = map view l.list.items ++ each_items (drop l.i (whys_shown l.whys)) (drop l.i l.replies) ≡ each_items (whys_shown l.whys) l.replies
