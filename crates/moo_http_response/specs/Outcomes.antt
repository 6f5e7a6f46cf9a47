-- What comes of a request that sends a batch.
use Rattle.moo_text.specs.declared.reply.Answer.{Answer}
use Rattle.moo_text.specs.declared.reply.Answer.TheVariants as answered
use Rattle.moo_http_request.specs.declared.asked.Refusal.TheVariants.{BadRequest, Malformed}
use Rattle.moo_http_response.specs.declared.outcome.RequestOutcome.{RequestOutcome}
use Rattle.moo_http_response.specs.declared.outcome.RequestOutcome.TheVariants as outcome

-- what comes of a request that sends a batch, by the answer to the batch
abbrev pub outcome_of : Answer → RequestOutcome
outcome_of (answered.Replied reply) = outcome.Replied reply
outcome_of answered.Fault = outcome.Fault
outcome_of answered.Closed = outcome.Closed
outcome_of (answered.Malformed number) = outcome.Refused (Malformed number)
outcome_of answered.Truncated = outcome.Refused BadRequest
