use Rattle.moo_tree.proofs.Words.{◌∙◌, ap, int_eq, nothing, same_object-eq}
use Rattle.moo_tree.proofs.numbers.is_nothing.Goals as goal

pub returns : goal.returns
returns c = c.eq.ensures ∙ ap (λ o. int_eq c.args.x.0 o.0) c.nothing.ensures ∙ same_object-eq nothing c.args.x
