use Rattle.moo_http_response.proofs.Words.{codes, subst}
use Rattle.moo_http_response.proofs.respond.not_found_response.Goals as goal
use Rattle.moo_http_response.specs.{Bodies.{error_body}, Responses.{plain}, Shown.{Shows}}
use Rattle.std.specs.Prelude.{IfOk}

pub returns : goal.returns
returns c = subst (λ why. IfOk c.error_response_with_why.result (λ r. Shows r (plain 404 (error_body why (codes "not found"))))) c.head_told-why.ensures c.error_response_with_why.ensures
