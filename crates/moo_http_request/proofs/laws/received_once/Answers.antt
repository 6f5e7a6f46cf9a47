use Rattle.moo_http_request.proofs.OnceLemmas.{received-once}
use Rattle.moo_http_request.proofs.laws.received_once.Goals as goal

pub returns : goal.returns
returns c = received-once
