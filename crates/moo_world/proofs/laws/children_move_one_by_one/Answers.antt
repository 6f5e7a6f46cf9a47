use Rattle.moo_world.proofs.Inheritance.OneByOne.{manually_moved-is, children_move, children_move_ascending}
use Rattle.moo_world.proofs.laws.children_move_one_by_one.Goals as goal

pub returns : goal.returns
returns c = record { moved = manually_moved-is; any_order = children_move; ascending = children_move_ascending }
