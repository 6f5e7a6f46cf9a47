use Rattle.moo_damage.{proofs.Words.{◌≡◌, rules, is_strange}, proofs.Firsts.{least_so}}
use Rattle.moo_damage.proofs.local.strange_slot.Goals as goal

pub returns-then-slots_are_owed : goal.returns-then-slots_are_owed
returns-then-slots_are_owed g c = (c.requires.hold c.if-slots_are_owed.true).owed

pub returns : goal.returns
returns g c =
    let m = (g.R.Rows.held c.args.rows.now).maps in
    least_so _ _ m.slots _ (λ b key _. is_strange m key ≡ b) (λ b key row says. search rules) c.first_bad.ensures
