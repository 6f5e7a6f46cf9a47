use Rattle.moo_http_request.{proofs.Words.{rules}, proofs.HeadLemmas.{lacks-overflow}}
use Rattle.moo_http_request.proofs.head.parse_head.Goals as goal

pub returns-in-Err-clause-found : goal.returns-in-Err-clause-found
returns-in-Err-clause-found c more = lacks-overflow _ more _ c.requires.0 (search rules) c.in-Err.ensures.no_room
