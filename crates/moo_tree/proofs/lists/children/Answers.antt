use Rattle.moo_tree.{proofs.Words.{arith}, proofs.Listing.{children_listed}}
use Rattle.moo_tree.proofs.lists.children.Goals as goal

pub returns : goal.returns
returns g c = grind (arith, children_listed)
