use Rattle.moo_value.proofs.Words.{◌∙◌, spread-gathered}
use Rattle.moo_value.proofs.value.ValueList.items.Goals as goal

pub returns-clause-plain : goal.returns-clause-plain
returns-clause-plain c = c.as_slice.ensures.value ∙ spread-gathered _ _ c.self.view_is
