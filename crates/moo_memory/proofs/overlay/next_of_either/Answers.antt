use Rattle.moo_memory.{proofs.Words.{subst, get, contents, IsNextAt}, proofs.Overlays.{next-of-either}}
use Rattle.moo_memory.proofs.overlay.next_of_either.Goals as goal

pub returns : goal.returns
returns g c =
    let row_at = get (g.V.KeyedRow.map_of (g.R.Rows.held c.args.base.now).maps) in
    rw c.least.ensures (next-of-either g.met.V.Key.Ord.total g.met.V.Key.OrderedKey.exact row_at (contents g.V.Key.Ord.cmp c.args.changes.now) c.args.from c.next.result c.next-2.result
    (subst (λ cmp. IsNextAt cmp row_at c.args.from c.next.result) g.met.V.KeyedRow.ordered c.next.ensures) c.next-2.ensures)
