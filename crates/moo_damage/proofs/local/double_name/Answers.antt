use Rattle.moo_damage.{proofs.Words.{◌≡◌, rules, is_double}, proofs.Firsts.{least_so}}
use Rattle.moo_damage.proofs.local.double_name.Goals as goal

pub returns-then-slots_are_owed : goal.returns-then-slots_are_owed
returns-then-slots_are_owed g c = (c.requires.hold c.if-slots_are_owed.true).names

pub returns : goal.returns
returns g c =
    let m = (g.R.Rows.held c.args.rows.now).maps in
    least_so _ _ m.props _ (λ b id row. is_double m id row ≡ b) (λ b id row says. search rules) c.first_bad.ensures
