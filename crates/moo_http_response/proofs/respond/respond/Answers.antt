use Rattle.moo_http_response.proofs.respond.respond.Goals as goal

pub returns-in-Closed : goal.returns-in-Closed
returns-in-Closed c = rw c.in-Closed.is c.error_response.ensures
