use Rattle.moo_damage.proofs.Words.{rules, not, has_slot}
use Rattle.moo_damage.proofs.local.any_definer_lacks_slot.Goals as goal

pub returns : goal.returns
returns g c = c.any_bad.ensures (λ id row. not (has_slot (g.R.Rows.held c.args.rows.now).maps row.definer id)) (λ b k r says. search rules)
