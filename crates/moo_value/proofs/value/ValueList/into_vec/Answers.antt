use Rattle.moo_value.proofs.Words.{spread-gathered}
use Rattle.moo_value.proofs.value.ValueList.into_vec.Goals as goal

pub returns-clause-plain : goal.returns-clause-plain
returns-clause-plain c = spread-gathered _ _ c.self.view_is
