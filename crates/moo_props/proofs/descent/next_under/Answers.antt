use Rattle.moo_props.{proofs.Words.{arith, None, Some, ◌∙◌, subst, ChildOf, IsFirst, is_linked, object_cmp}, proofs.Descending.{linked_child, still_under, downward, leaf}}
use Rattle.moo_props.proofs.descent.next_under.Goals as goal

pub returns-in-None-clause-next : goal.returns-in-None-clause-next
returns-in-None-clause-next g c = grind (arith, leaf)

pub returns-in-Some-clause-next : goal.returns-in-Some-clause-next
returns-in-Some-clause-next g c = grind (arith, downward)

pub returns-in-Some-clause-under : goal.returns-in-Some-clause-under
returns-in-Some-clause-under g c = grind (arith, linked_child, still_under)
