use Rattle.moo_damage.proofs.Words.{rules, not, comes_down}
use Rattle.moo_damage.proofs.local.any_slot_from_nowhere.Goals as goal

pub returns : goal.returns
returns g c = c.any_bad.ensures (λ key _. not (comes_down (g.R.Rows.held c.args.rows.now).maps key)) (λ b k r says. search rules)
