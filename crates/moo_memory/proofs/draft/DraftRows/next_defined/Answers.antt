use Rattle.moo_memory.{proofs.Words.{Some, None, sym, ap, ◌∙◌, rules, contents, prop_cmp, slot_cmp, prop_exact, row_defined, prop_total, first-none, first-found, first-skipped}, proofs.Overlays.{get-overlaid}, proofs.Drafts.{draft-defines}}
use Rattle.moo_memory.proofs.draft.DraftRows.next_defined.Goals as goal

pub returns-in-None : goal.returns-in-None
returns-in-None g c =
    let covers = draft-defines (g.R.Rows.held c.self.inside.base.now).maps.props (contents prop_cmp c.self.inside.props) (contents slot_cmp c.self.inside.definers) c.self.invariant.1 c.args.x in
    rw (← c.self.view_is) (c.loop-key.invariant None (first-none prop_total prop_exact _ _ covers c.loop-key.last c.in-None.ensures))

pub returns-then-row_defined : goal.returns-then-row_defined
returns-then-row_defined g c =
    let covers = draft-defines (g.R.Rows.held c.self.inside.base.now).maps.props (contents prop_cmp c.self.inside.props) (contents slot_cmp c.self.inside.definers) c.self.invariant.1 c.args.x in
    rw (← c.self.view_is) (c.loop-key.invariant (Some c.in-Some.key) (first-found prop_total prop_exact _ _ covers c.loop-key.last c.in-Some.key c.in-Some.ensures
    (ap (row_defined c.args.x) (get-overlaid prop_total (g.R.Rows.held c.self.inside.base.now).maps.props (contents prop_cmp c.self.inside.props) c.in-Some.key ∙ sym c.get.ensures) ∙ search rules)))

pub loop-key-preserved : goal.loop-key-preserved
loop-key-preserved g c =
    let covers = draft-defines (g.R.Rows.held c.self.inside.base.now).maps.props (contents prop_cmp c.self.inside.props) (contents slot_cmp c.self.inside.definers) c.self.invariant.1 c.args.x in
    λ r next. c.loop-key.invariant r (first-skipped prop_total prop_exact _ _ covers c.loop-key.last c.in-Some.key c.in-Some.ensures
    (ap (row_defined c.args.x) (get-overlaid prop_total (g.R.Rows.held c.self.inside.base.now).maps.props (contents prop_cmp c.self.inside.props) c.in-Some.key ∙ sym c.get.ensures) ∙ search rules) r next)
