use Rattle.moo_load.{proofs.Words.{ap, sym, ◌∙◌, arith, rules, Str}, proofs.Items.{all_items}}
use Rattle.moo_load.proofs.object.read_object.Goals as goal

pub returns-clause-shown : goal.returns-clause-shown
returns-clause-shown c = all_items c.args.values.now _ 0 (omega arith) (search (rules, c.in_ok-text_of.ensures.ok ∙ ap Str (sym c.in_ok-copy.ensures)) depth 20 fits 4000 parts 20)
