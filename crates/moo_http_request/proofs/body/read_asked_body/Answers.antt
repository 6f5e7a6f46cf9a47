use Rattle.moo_http_request.proofs.Words.{Some, view}
use Rattle.std.proofs.lemmas.Result.{IfOk-weaker}
use Rattle.moo_http_request.proofs.body.read_asked_body.Goals as goal

pub returns-in-Some : goal.returns-in-Some
returns-in-Some c =
    let json = rw c.in-Some.is at c.in_ok-value.ensures in
    IfOk-weaker c.read_asked_json.result _ _ (λ asked is. (Some (view c.in-Some.value), json, is)) c.read_asked_json.ensures
