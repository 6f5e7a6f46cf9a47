use Rattle.moo_http_request.{proofs.Words.{map, take, header_bytes}, specs.Lines.{values_of, IsFoundAmong}}
use Rattle.moo_http_request.proofs.lines.find.Given as goal

abbrev pub invariant-loop-line : goal.invariant-loop-line
invariant-loop-line l = IsFoundAmong (values_of l.name (map (header_bytes l.bytes) (take l.line-index l.lines))) l.found
