use Rattle.moo_cells.proofs.OneRows.{one_rows}
use Rattle.moo_cells.proofs.laws.one_set_of_rows.Goals as goal

pub returns : goal.returns
returns c t m n p f q g = one_rows t m n p f q g
