use Rattle.moo_load.{proofs.Words.{arith, rules}, proofs.Items.{all_items}}
use Rattle.moo_load.proofs.petition.read_petition.Goals as goal

pub returns-clause-shown : goal.returns-clause-shown
returns-clause-shown c = all_items c.args.values.now _ 0 (omega arith) (search rules)
