use Rattle.moo_damage.proofs.Words.{rules, has_clear}
use Rattle.moo_damage.proofs.checks.any_clear_own.Goals as goal

pub returns : goal.returns
returns g c = c.any_bad.ensures (λ id row. has_clear (g.R.Rows.held c.args.rows.now).maps row.definer id) (λ b k r says. search rules)
