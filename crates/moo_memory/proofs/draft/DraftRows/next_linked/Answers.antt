use Rattle.moo_memory.{proofs.Words.{Some, None, sym, ap, ◌∙◌, rules, contents, object_cmp, object_exact, row_has, object_total, first-none, first-found, first-skipped}, proofs.Overlays.{get-overlaid}, proofs.Drafts.{draft-covers}}
use Rattle.moo_memory.proofs.draft.DraftRows.next_linked.Goals as goal

pub returns-in-None : goal.returns-in-None
returns-in-None g c =
    let covers = draft-covers (g.R.Rows.held c.self.inside.base.now).maps.objects (contents object_cmp c.self.inside.objects) c.self.inside.links c.self.invariant.0 c.args.link in
    rw (← c.self.view_is) (c.loop-key.invariant None (first-none object_total object_exact _ _ covers c.loop-key.last c.in-None.ensures))

pub returns-then-row_has : goal.returns-then-row_has
returns-then-row_has g c =
    let covers = draft-covers (g.R.Rows.held c.self.inside.base.now).maps.objects (contents object_cmp c.self.inside.objects) c.self.inside.links c.self.invariant.0 c.args.link in
    rw (← c.self.view_is) (c.loop-key.invariant (Some c.in-Some.key) (first-found object_total object_exact _ _ covers c.loop-key.last c.in-Some.key c.in-Some.ensures
    (ap (row_has c.args.link) (get-overlaid object_total (g.R.Rows.held c.self.inside.base.now).maps.objects (contents object_cmp c.self.inside.objects) c.in-Some.key ∙ sym c.get.ensures) ∙ search rules)))

pub loop-key-preserved : goal.loop-key-preserved
loop-key-preserved g c =
    let covers = draft-covers (g.R.Rows.held c.self.inside.base.now).maps.objects (contents object_cmp c.self.inside.objects) c.self.inside.links c.self.invariant.0 c.args.link in
    λ r next. c.loop-key.invariant r (first-skipped object_total object_exact _ _ covers c.loop-key.last c.in-Some.key c.in-Some.ensures
    (ap (row_has c.args.link) (get-overlaid object_total (g.R.Rows.held c.self.inside.base.now).maps.objects (contents object_cmp c.self.inside.objects) c.in-Some.key ∙ sym c.get.ensures) ∙ search rules) r next)
