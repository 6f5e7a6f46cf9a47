use Rattle.moo_memory.{proofs.Words.{◌≢◌, ◌∙◌, sym, Some, None, arith, get, contents}, proofs.Overlays.{none_over, next_held, skipped, fewer}}
use Rattle.std.proofs.lemmas.Bool.{true≢false}
use Rattle.moo_memory.proofs.overlay.next.Goals as goal

pub returns-in-None : goal.returns-in-None
returns-in-None g c = c.loop-key.invariant None (λ q past. none_over (get (g.V.KeyedRow.map_of (g.R.Rows.held c.args.base.now).maps)) (contents g.V.Key.Ord.cmp c.args.changes.now) q (c.in-None.ensures q past))

pub returns-then-not-is_removed : goal.returns-then-not-is_removed
returns-then-not-is_removed g c =
    let kept : get (contents g.V.Key.Ord.cmp c.args.changes.now) c.in-Some.key ≢ Some None = λ e. true≢false (sym (c.is_removed.ensures.1 e) ∙ c.if-not-is_removed.true) in
    c.loop-key.invariant (Some c.in-Some.key) (next_held (get (g.V.KeyedRow.map_of (g.R.Rows.held c.args.base.now).maps)) (contents g.V.Key.Ord.cmp c.args.changes.now) c.loop-key.last c.in-Some.key c.in-Some.ensures kept)

pub loop-key-smaller : goal.loop-key-smaller
loop-key-smaller g c =
    let e = fewer (get (g.V.KeyedRow.map_of (g.R.Rows.held c.args.base.now).maps)) (contents g.V.Key.Ord.cmp c.args.changes.now) g.met.V.Key.Ord.total g.met.V.Key.OrderedKey.exact c.loop-key.last c.in-Some.key c.in-Some.ensures (c.is_removed.ensures.0 c.if-not-is_removed.false) in
    omega arith

pub loop-key-preserved : goal.loop-key-preserved
loop-key-preserved g c = λ r next.
    c.loop-key.invariant r (skipped (get (g.V.KeyedRow.map_of (g.R.Rows.held c.args.base.now).maps)) (contents g.V.Key.Ord.cmp c.args.changes.now) g.met.V.Key.Ord.total g.met.V.Key.OrderedKey.exact c.loop-key.last c.in-Some.key c.in-Some.ensures (c.is_removed.ensures.0 c.if-not-is_removed.false) r next)
