use Rattle.moo_value.proofs.Words.{sym, ◌∙◌, value-exact}
use Rattle.moo_value.proofs.value.Value.same.Goals as goal

pub returns : goal.returns
returns c = let h = value-exact c.args.self.now c.args.other.now in (λ t. h.0 (sym c.eq.ensures ∙ t), λ e. c.eq.ensures ∙ h.1 e)
