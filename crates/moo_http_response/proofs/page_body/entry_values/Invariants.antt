use Rattle.moo_http_response.{proofs.Words.{◌≡◌, map, take, view}, specs.PageBodies.{entry_body}}
use Rattle.moo_http_response.proofs.page_body.entry_values.Given as goal

abbrev pub invariant-loop-entry : goal.invariant-loop-entry
invariant-loop-entry l = map view l.list.items ≡ map entry_body (take l.entry-index l.entries)
