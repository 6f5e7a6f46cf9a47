use Rattle.moo_http_request.{proofs.LineLemmas.{same_test}}
use Rattle.moo_http_request.proofs.host.has_front.Goals as goal

pub returns : goal.returns
returns c = same_test c.eq_ignore_ascii_case.result _ _ c.eq_ignore_ascii_case.ensures.test
