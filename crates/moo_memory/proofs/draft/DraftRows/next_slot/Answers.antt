use Rattle.moo_memory.{proofs.Words.{contents, slot_cmp, slot_total}, proofs.Overlays.{next-overlaid}}
use Rattle.moo_memory.proofs.draft.DraftRows.next_slot.Goals as goal

pub returns : goal.returns
returns g c =
    let d = c.self.inside in
    rw (← c.self.view_is) (next-overlaid slot_total (g.R.Rows.held d.base.now).maps.slots (contents slot_cmp d.slots) c.args.from c.next.result c.next.ensures)
