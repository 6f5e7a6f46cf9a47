use Rattle.moo_http.{proofs.Words.{[], refl, Nothing}, proofs.Going.{moves_as, moves_none}, proofs.Serving.{unread_at, unread_cause, served}}
use Rattle.std.proofs.{KnownBytes.{Appends-nil}, lemmas.Result.{IfErr-weaker}}
use Rattle.moo_http.proofs.serve.serve_one.Goals as goal

pub returns-in_err-read_request-clause-served : goal.returns-in_err-read_request-clause-served
returns-in_err-read_request-clause-served g c = moves_none (λ from at. unread_at c.from_residual.result c.in_err-read_request.field-0.0 from _ c.from_residual.ensures.1 refl)

pub returns-in-Nothing-clause-served : goal.returns-in-Nothing-clause-served
returns-in-Nothing-clause-served g c =
    let takes = rw c.in-Nothing.is at c.in_ok-read_request.ensures.takes in
    moves_none (λ from at. ([], (Nothing, takes, (refl, refl)), Appends-nil _))

pub returns-in-Request-clause-served : goal.returns-in-Request-clause-served
returns-in-Request-clause-served g c =
    let asks = c.in-Request in
    let takes = rw asks.is at c.in_ok-read_request.ensures.takes in
    moves_as c.serve_asked.ensures.answered (λ from to it. served c.serve_asked.result from to _ asks.is_head asks.asks_why asks.asked takes c.serve_asked.ensures.fault it)

pub returns-in_err-read_request-clause-unread : goal.returns-in_err-read_request-clause-unread
returns-in_err-read_request-clause-unread g c = unread_cause c.from_residual.result c.in_err-read_request.field-0.0 c.from_residual.ensures.1 (λ is. (refl, c.in_err-read_request.ensures.cause is))

pub returns-in-Request-clause-unread : goal.returns-in-Request-clause-unread
returns-in-Request-clause-unread g c = IfErr-weaker c.serve_asked.result _ _ (λ fault other is. absurd (other is)) c.serve_asked.ensures.fault
