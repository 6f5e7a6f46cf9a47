use Rattle.moo_tree.{proofs.Words.{arith}, proofs.Listing.{contents_listed}}
use Rattle.moo_tree.proofs.lists.contents.Goals as goal

pub returns : goal.returns
returns g c = grind (arith, contents_listed)
