use Rattle.moo_props.{proofs.Words.{◌≡◌, None, Some, arith, sym, ap, ◌∙◌, find, if◌then◌else◌, world_of, meets_on, from_here, walk_after}, proofs.NameClashes.{first_meeting}}
use Rattle.moo_props.proofs.clashing.sharing_definer.Goals as goal

pub returns-then-is_none : goal.returns-then-is_none
returns-then-is_none g c = grind (arith, first_meeting)

pub returns-then-branch : goal.returns-then-branch
returns-then-branch g c = grind (arith, first_meeting)

pub returns : goal.returns
returns g c = grind (arith, first_meeting)
