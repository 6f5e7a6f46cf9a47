use Rattle.moo_memory.{proofs.Words.{sym, ◌∙◌, contents, slot_cmp, slot_total}, proofs.Overlays.{get-overlaid}}
use Rattle.moo_memory.proofs.draft.DraftRows.slot.Goals as goal

pub returns : goal.returns
returns g c =
    let d = c.self.inside in
    rw (← c.self.view_is) (c.get.ensures ∙ sym (get-overlaid slot_total (g.R.Rows.held d.base.now).maps.slots (contents slot_cmp d.slots) c.args.key))
