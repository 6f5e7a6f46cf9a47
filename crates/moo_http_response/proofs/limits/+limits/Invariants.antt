use Rattle.moo_http_response.proofs.Words.{◌+◌, ◌*◌, drop, IsText, HoldInside, InRange, levels, gather, nesting}
use Rattle.moo_http_response.proofs.limits.+limits.Given as goal

abbrev pub decreases-read_limits : goal.decreases-read_limits
decreases-read_limits l = 2 * nesting l.value.now

abbrev pub decreases-read_limits_in : goal.decreases-read_limits_in
decreases-read_limits_in l = 2 * levels l.list.now + 1

-- what holds of the values that are left holds of all
abbrev pub invariant-read_limits_in-loop-value : goal.invariant-read_limits_in-loop-value
invariant-read_limits_in-loop-value l = HoldInside InRange IsText (gather (drop l.value-index l.value-items)) → HoldInside InRange IsText (gather l.value-items)
