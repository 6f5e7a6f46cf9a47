use Rattle.moo_memory.{proofs.Words.{contents, prop_cmp, prop_total}, proofs.Overlays.{next-overlaid}}
use Rattle.moo_memory.proofs.draft.DraftRows.next_prop.Goals as goal

pub returns : goal.returns
returns g c =
    let d = c.self.inside in
    rw (← c.self.view_is) (next-overlaid prop_total (g.R.Rows.held d.base.now).maps.props (contents prop_cmp d.props) c.args.from c.next.result c.next.ensures)
