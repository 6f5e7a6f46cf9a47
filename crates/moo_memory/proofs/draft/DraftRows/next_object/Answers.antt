use Rattle.moo_memory.{proofs.Words.{contents, object_cmp, object_total}, proofs.Overlays.{next-overlaid}}
use Rattle.moo_memory.proofs.draft.DraftRows.next_object.Goals as goal

pub returns : goal.returns
returns g c =
    let d = c.self.inside in
    rw (← c.self.view_is) (next-overlaid object_total (g.R.Rows.held d.base.now).maps.objects (contents object_cmp d.objects) c.args.from c.next.result c.next.ensures)
