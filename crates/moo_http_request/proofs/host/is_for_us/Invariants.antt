use Rattle.moo_http_request.{proofs.Words.{◌≡◌, true, take, list_all, header_bytes}, specs.Hosts.{is_own_line}}
use Rattle.moo_http_request.proofs.host.is_for_us.Given as goal

abbrev pub invariant-loop-line : goal.invariant-loop-line
invariant-loop-line l = list_all (λ line. is_own_line (header_bytes l.bytes line)) (take l.line-index l.lines) ≡ true
