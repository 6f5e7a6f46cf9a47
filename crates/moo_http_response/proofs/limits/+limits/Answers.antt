use Rattle.moo_http_response.{proofs.Words.{arith, ap, levels}, proofs.Nesting.{nesting_le}}
use Rattle.moo_http_response.proofs.limits.+limits.Goals as goal

pub read_limits_in-read_limits-requires : goal.read_limits_in-read_limits-requires
read_limits_in-read_limits-requires t c =
    let inside = nesting_le c.items-value-items.result.now c.loop-value.value-index c.value-item.result c.value-item.is c.loop-value-test.true in
    (omega (arith, inside, ap levels c.items-value-items.ensures.gathered, c.decreases), tt)
