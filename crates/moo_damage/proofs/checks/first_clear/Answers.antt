use Rattle.moo_damage.{proofs.Words.{◌≡◌, sym, ◌∙◌, rules, is_clear_definer}, proofs.Firsts.{least_so}, proofs.OwnClear.{none_clear}}
use Rattle.moo_damage.proofs.checks.first_clear.Goals as goal

pub returns-then-not-any_clear_own : goal.returns-then-not-any_clear_own
returns-then-not-any_clear_own g c = none_clear (g.R.Rows.held c.args.rows.now).maps (sym c.any_clear_own.ensures ∙ c.if-not-any_clear_own.true)

pub returns : goal.returns
returns g c =
    let m = (g.R.Rows.held c.args.rows.now).maps in
    least_so _ _ m.slots _ (λ b key row. is_clear_definer m key row ≡ b) (λ b key row says. search rules) c.first_bad.ensures
