use Rattle.moo_props.{proofs.Words.{arith, sym, ap, ◌∙◌, slot_of, world_of}, proofs.Walked.{slot_here}}
use Rattle.moo_props.proofs.finding.slot_of.Goals as goal

pub returns-clause-slot : goal.returns-clause-slot
returns-clause-slot g c = grind (arith, slot_here)
