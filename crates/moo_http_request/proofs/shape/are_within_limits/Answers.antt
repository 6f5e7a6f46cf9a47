use Rattle.moo_http_request.{proofs.Words.{◌∙◌}, proofs.TextLemmas.{within-now}}
use Rattle.moo_http_request.proofs.shape.are_within_limits.Goals as goal

pub returns-then-texts-le-MOST_CALLS : goal.returns-then-texts-le-MOST_CALLS
returns-then-texts-le-MOST_CALLS c = c.all_within_line.ensures ∙ within-now c.args.texts.now c.if-texts-le-MOST_CALLS.true
