use Rattle.moo_tree.{proofs.Words.{arith}, proofs.Listing.{players_listed}}
use Rattle.moo_tree.proofs.lists.players.Goals as goal

pub returns : goal.returns
returns g c = grind (arith, players_listed)
