use Rattle.moo_memory.{proofs.Words.{Some, None, sym, ap, ◌∙◌, rules, contents, prop_cmp, named_cmp, prop_exact, row_named, prop_total, first-none, first-found, first-skipped}, proofs.Overlays.{get-overlaid}, proofs.Drafts.{draft-named}}
use Rattle.moo_memory.proofs.draft.DraftRows.next_named.Goals as goal

pub returns-in-None : goal.returns-in-None
returns-in-None g c =
    let covers = draft-named (g.R.Rows.held c.self.inside.base.now).maps.props (contents prop_cmp c.self.inside.props) (contents named_cmp c.self.inside.names) c.self.invariant.2 c.args.x c.args.name.now in
    rw (← c.self.view_is) (c.loop-key.invariant None (first-none prop_total prop_exact _ _ covers c.loop-key.last c.in-None.ensures))

pub returns-then-row_named : goal.returns-then-row_named
returns-then-row_named g c =
    let covers = draft-named (g.R.Rows.held c.self.inside.base.now).maps.props (contents prop_cmp c.self.inside.props) (contents named_cmp c.self.inside.names) c.self.invariant.2 c.args.x c.args.name.now in
    rw (← c.self.view_is) (c.loop-key.invariant (Some c.in-Some.key) (first-found prop_total prop_exact _ _ covers c.loop-key.last c.in-Some.key c.in-Some.ensures
    (ap (row_named c.args.x c.args.name.now) (get-overlaid prop_total (g.R.Rows.held c.self.inside.base.now).maps.props (contents prop_cmp c.self.inside.props) c.in-Some.key ∙ sym c.get.ensures) ∙ search rules)))

pub loop-key-preserved : goal.loop-key-preserved
loop-key-preserved g c =
    let covers = draft-named (g.R.Rows.held c.self.inside.base.now).maps.props (contents prop_cmp c.self.inside.props) (contents named_cmp c.self.inside.names) c.self.invariant.2 c.args.x c.args.name.now in
    λ r next. c.loop-key.invariant r (first-skipped prop_total prop_exact _ _ covers c.loop-key.last c.in-Some.key c.in-Some.ensures
    (ap (row_named c.args.x c.args.name.now) (get-overlaid prop_total (g.R.Rows.held c.self.inside.base.now).maps.props (contents prop_cmp c.self.inside.props) c.in-Some.key ∙ sym c.get.ensures) ∙ search rules) r next)
