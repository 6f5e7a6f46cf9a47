use Rattle.moo_damage.proofs.Words.{rules, lacks_slot_of}
use Rattle.moo_damage.proofs.local.any_child_lacks_slot.Goals as goal

pub returns : goal.returns
returns g c = c.any_bad.ensures (λ x row. lacks_slot_of (g.R.Rows.held c.args.rows.now).maps x row.parent) (λ b k r says. search rules)
