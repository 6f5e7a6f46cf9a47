use Rattle.moo_memory.{proofs.Words.{contents, petition_cmp, petition_total}, proofs.Overlays.{next-overlaid}}
use Rattle.moo_memory.proofs.draft.DraftRows.next_petition.Goals as goal

pub returns : goal.returns
returns g c =
    let d = c.self.inside in
    rw (← c.self.view_is) (next-overlaid petition_total (g.R.Rows.held d.base.now).maps.petitions (contents petition_cmp d.petitions) c.args.from c.next.result c.next.ensures)
