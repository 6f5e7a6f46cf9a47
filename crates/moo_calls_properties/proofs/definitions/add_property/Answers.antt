use Rattle.std.proofs.Common.{rules}
use Rattle.moo_calls_properties.proofs.definitions.add_property.Goals as goal

pub returns-in_err-bits : goal.returns-in_err-bits
returns-in_err-bits g c = let failed = c.in_err-bits.ensures.err c.args.value.now in search rules
