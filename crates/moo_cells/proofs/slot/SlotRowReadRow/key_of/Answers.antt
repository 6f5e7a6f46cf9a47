use Rattle.moo_cells.{proofs.Words.{w64, to_z-of_z, Slot}, proofs.Keys.{pair_mine}}
use Rattle.moo_cells.proofs.slot.SlotRowReadRow.key_of.Goals as goal

pub returns : goal.returns
returns c =
    let n = c.int_in in
    let k = c.int_in-2 in
    let one = to_z-of_z w64 n.result n.ensures.fits in
    let two = to_z-of_z w64 k.result k.ensures.fits in
    ((n.result, k.result), pair_mine c.args.cells.now n.result k.result n.ensures.value k.ensures.value, λ i. Slot (one i) (two i))
