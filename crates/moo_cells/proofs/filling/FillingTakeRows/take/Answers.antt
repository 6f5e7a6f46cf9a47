use Rattle.moo_cells.{proofs.Words.{◌++◌, sym, subst}, specs.Filled.{FillsInSomeOrder, FillsMap}, specs.Holding.{KeepsTable}}
use Rattle.moo_cells.proofs.filling.FillingTakeRows.take.Goals as goal

-- the version stays
pub returns : goal.returns
returns g c first rows was held =
    let r = g.R.ReadRow in (
      was.0,
      λ keeps.
          let old = subst (λ w. FillsInSomeOrder (FillsMap g.R.KeyedRow.map_of g.R.KeyedRow.with_map r.apart (r.holds w) (r.reads w)) first.rows.maps rows c.args.self.now.rows.maps) (sym was.0) (was.1 keeps) in
          let kept = subst (λ w. KeepsTable g.R.KeyedRow.order (r.reads w) r.apart r.in_order (r.holds w) (r.unread w) r.whole r.tells) (sym was.0) keeps in
          subst (λ w. FillsInSomeOrder (FillsMap g.R.KeyedRow.map_of g.R.KeyedRow.with_map r.apart (r.holds w) (r.reads w)) first.rows.maps (rows ++ c.args.block.items) c.put_block.new.rows.maps) was.0 (c.put_block.ensures kept first.rows.maps rows old held),
    )
