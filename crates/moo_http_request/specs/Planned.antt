-- What holds of each plan.
use Rattle.std.specs.Prelude.{◌≤◌, ⊤}
use Rattle.moo_http_request.specs.{declared.plan.Plan.{Plan}, declared.plan.Plan.TheVariants.{Decided, Body}}
use Rattle.moo_http_request.specs.declared.plan.TheConstants.{MAX_BODY}

-- a plan reads a body of at most 1,048,576 bytes, if it reads one
abbrev pub IsBounded : Plan → Type 0
IsBounded (Decided asked) = ⊤
IsBounded (Body form n) = n ≤ MAX_BODY
