use Rattle.moo_desk.proofs.Firsts.{not_lacking}
use Rattle.moo_desk.proofs.first.any_item.Goals as goal

pub returns-in-Some-clause-yes : goal.returns-in-Some-clause-yes
returns-in-Some-clause-yes g c _ = not_lacking (g.Q.Question.asks c.args.question.now) c.in-Some.field-0 c.args.items.now c.in-Some.ensures.first
