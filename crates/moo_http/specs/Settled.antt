-- What came of a call on a World.
use Rattle.std.specs.Prelude.{Result, Ok, Err}
use Rattle.moo_text.specs.declared.reply.Reply.{Reply}
use Rattle.moo_store.specs.declared.fault.StoreFault.{StoreFault}
use Rattle.moo_store.specs.declared.fault.StoreFault.TheVariants as fault
use Rattle.moo_http_response.specs.declared.outcome.RequestOutcome.{RequestOutcome}
use Rattle.moo_http_response.specs.declared.outcome.RequestOutcome.TheVariants as outcome

-- what comes of a request, by the fault of the call on the World
abbrev pub lost_by : StoreFault → RequestOutcome
lost_by fault.OutOfMemory = outcome.NoMemory
lost_by fault.Closed = outcome.Closed
lost_by other = outcome.Fault

-- what comes of a request, by the result of its batch, which was run or asked
abbrev pub came_of : Result Reply StoreFault → RequestOutcome
came_of (Ok reply) = outcome.Replied reply
came_of (Err why) = lost_by why
