use Rattle.moo_memory.{proofs.Words.{sym, ◌∙◌, contents, verb_cmp, verb_total}, proofs.Overlays.{get-overlaid}}
use Rattle.moo_memory.proofs.draft.DraftRows.verb.Goals as goal

pub returns : goal.returns
returns g c =
    let d = c.self.inside in
    rw (← c.self.view_is) (c.get.ensures ∙ sym (get-overlaid verb_total (g.R.Rows.held d.base.now).maps.verbs (contents verb_cmp d.verbs) c.args.key))
