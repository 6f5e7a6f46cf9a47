use Rattle.moo_cells.proofs.CellsLemmas.{none_met, not_newer}
use Rattle.moo_cells.proofs.laws.shown_without_damage.Goals as goal

pub returns-clause-newer : goal.returns-clause-newer
returns-clause-newer c t m shown good = not_newer t m shown good

pub returns-clause-damage : goal.returns-clause-damage
returns-clause-damage c t m shown good kind key = none_met t m shown good kind key
