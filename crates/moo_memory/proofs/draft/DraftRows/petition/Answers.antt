use Rattle.moo_memory.{proofs.Words.{sym, ◌∙◌, contents, petition_cmp, petition_total}, proofs.Overlays.{get-overlaid}}
use Rattle.moo_memory.proofs.draft.DraftRows.petition.Goals as goal

pub returns : goal.returns
returns g c =
    let d = c.self.inside in
    rw (← c.self.view_is) (c.get.ensures ∙ sym (get-overlaid petition_total (g.R.Rows.held d.base.now).maps.petitions (contents petition_cmp d.petitions) c.args.key))
