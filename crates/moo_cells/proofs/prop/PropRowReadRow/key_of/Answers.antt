use Rattle.moo_cells.{proofs.Words.{w64, to_z-of_z, column, Prop}, proofs.Keys.{self_tied}}
use Rattle.moo_cells.proofs.prop.PropRowReadRow.key_of.Goals as goal

pub returns : goal.returns
returns c = let n = c.int_in in let one = to_z-of_z w64 n.result n.ensures.fits in (n.result, self_tied (column c.args.cells.now 0) n.result n.ensures.value, λ i. Prop (one i))
