use Rattle.moo_tree.{proofs.Words.{arith, items_from_collect, YieldsList-from_rest}, proofs.Found.{subtree_found}}
use Rattle.moo_tree.proofs.surface.subtree.Goals as goal

pub returns : goal.returns
returns g c = grind (arith, subtree_found, items_from_collect, YieldsList-from_rest)
