use Rattle.moo_memory.{proofs.Words.{contents, verb_cmp, verb_total}, proofs.Overlays.{next-overlaid}}
use Rattle.moo_memory.proofs.draft.DraftRows.next_verb.Goals as goal

pub returns : goal.returns
returns g c =
    let d = c.self.inside in
    rw (← c.self.view_is) (next-overlaid verb_total (g.R.Rows.held d.base.now).maps.verbs (contents verb_cmp d.verbs) c.args.from c.next.result c.next.ensures)
