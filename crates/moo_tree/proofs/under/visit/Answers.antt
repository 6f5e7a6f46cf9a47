use Rattle.moo_tree.{proofs.Words.{arith, true≢false, is_object_seen}, proofs.Listing.{children_listed}}
use Rattle.moo_tree.proofs.under.visit.Goals as goal
use Rattle.moo_rows.proofs.Firsts.{on_ok}

pub unreachable-requires : goal.unreachable-requires
unreachable-requires g c = grind (arith, true≢false, is_object_seen)

pub returns-clause-below : goal.returns-clause-below
returns-clause-below g c = grind (arith, on_ok, children_listed)
