use Rattle.std.proofs.lemmas.Grind.{common_steps}
use Rattle.moo_text.proofs.Shared.{arith}
use Rattle.moo_text.proofs.lines.LineReader.read_piece.Goals as goal

pub slice_bounds-fill-end : goal.slice_bounds-fill-end
slice_bounds-fill-end g c = grind (arith, common_steps)

pub returns-in_ok-fill-in-Ok-2-clause-room : goal.returns-in_ok-fill-in-Ok-2-clause-room
returns-in_ok-fill-in-Ok-2-clause-room g c = grind (arith, common_steps)

pub invariant_of-self-in-Ok-2 : goal.invariant_of-self-in-Ok-2
invariant_of-self-in-Ok-2 g c = grind (arith, common_steps)

pub returns-in_err-fill-in-Ok-2-clause-cause : goal.returns-in_err-fill-in-Ok-2-clause-cause
returns-in_err-fill-in-Ok-2-clause-cause g c = grind (arith, common_steps)
