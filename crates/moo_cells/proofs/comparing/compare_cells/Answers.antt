use Rattle.moo_tables.specs.Listing.{tables_of}
use Rattle.moo_cells.proofs.Compared.{mismatch}
use Rattle.moo_cells.proofs.comparing.compare_cells.Goals as goal

pub returns-clause-differs : goal.returns-clause-differs
returns-clause-differs c = mismatch c.args.own.now.maps c.in_ok-found.found.maps (tables_of c.args.lists) c.in_ok-found.ensures.rows c.in_ok-found.ensures.good c.first_difference.result c.first_difference.ensures.differs
