use Rattle.moo_memory.{proofs.Words.{sym, ◌∙◌, contents, prop_cmp, prop_total}, proofs.Overlays.{get-overlaid}}
use Rattle.moo_memory.proofs.draft.DraftRows.prop.Goals as goal

pub returns : goal.returns
returns g c =
    let d = c.self.inside in
    rw (← c.self.view_is) (c.get.ensures ∙ sym (get-overlaid prop_total (g.R.Rows.held d.base.now).maps.props (contents prop_cmp d.props) c.args.key))
