use Rattle.std.{proofs.Common.{arith}, proofs.lemmas.Grind.{common_steps}}
use Rattle.moo_rows.proofs.row.Bits.number.Goals as goal

pub returns : goal.returns
returns c = grind (arith, common_steps)
