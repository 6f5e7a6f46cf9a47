use Rattle.moo_damage.proofs.Plainly.{plain_given}
use Rattle.moo_damage.proofs.plain.past_object.Goals as goal

pub returns-then-are_plain : goal.returns-then-are_plain
returns-then-are_plain g c = plain_given (g.R.Rows.held c.args.rows.now).maps (c.requires c.if-are_plain.true)
