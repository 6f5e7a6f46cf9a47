use Rattle.moo_memory.{proofs.Words.{sym, ◌∙◌, contents, object_cmp, object_total}, proofs.Overlays.{get-overlaid}}
use Rattle.moo_memory.proofs.draft.DraftRows.object.Goals as goal

pub returns : goal.returns
returns g c =
    let d = c.self.inside in
    rw (← c.self.view_is) (c.get.ensures ∙ sym (get-overlaid object_total (g.R.Rows.held d.base.now).maps.objects (contents object_cmp d.objects) c.args.key))
