use Rattle.moo_props.{proofs.Words.{arith, ◌≡◌, false, Some, sym, ap, ◌∙◌, find, if◌then◌else◌, world_of, meets_on, from_here, walk_after}, proofs.HashedNames.{none_meets}}
use Rattle.moo_props.proofs.clashing.first_definer.Goals as goal

pub loop-at-init : goal.loop-at-init
loop-at-init g c = grind arith

pub loop-at-preserved : goal.loop-at-preserved
loop-at-preserved g c = grind (arith, none_meets)
