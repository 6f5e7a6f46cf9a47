use Rattle.moo_memory.proofs.Words.{Some, None, rules, contents, object_cmp, object_total, candidate-covers, first-none, first-found, first-skipped}
use Rattle.moo_rows.specs.Exact.{object_exact}
use Rattle.moo_memory.proofs.flat.FlatRows.next_linked.Goals as goal

pub returns-in-None : goal.returns-in-None
returns-in-None c =
    rw (← c.self.view_is) (c.loop-key.invariant None (first-none object_total object_exact _ _ (candidate-covers (contents object_cmp c.self.inside.objects) c.self.inside.links c.self.invariant.0 c.args.link) c.loop-key.last c.in-None.ensures))

pub returns-then-row_has : goal.returns-then-row_has
returns-then-row_has c =
    rw (← c.self.view_is) (c.loop-key.invariant (Some c.in-Some.key) (first-found object_total object_exact _ _ (candidate-covers (contents object_cmp c.self.inside.objects) c.self.inside.links c.self.invariant.0 c.args.link) c.loop-key.last c.in-Some.key c.in-Some.ensures (search rules)))

pub loop-key-preserved : goal.loop-key-preserved
loop-key-preserved c =
    λ r next. c.loop-key.invariant r (first-skipped object_total object_exact _ _ (candidate-covers (contents object_cmp c.self.inside.objects) c.self.inside.links c.self.invariant.0 c.args.link) c.loop-key.last c.in-Some.key c.in-Some.ensures (search rules) r next)
