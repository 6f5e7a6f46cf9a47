use Rattle.std.proofs.Common.{arith}
use Rattle.moo_text.proofs.Kept.{kept_more}
use Rattle.moo_text.proofs.lines.put_kept.Goals as goal

pub returns : goal.returns
returns c = grind (arith, kept_more)
