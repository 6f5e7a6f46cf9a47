use Rattle.moo_memory.proofs.Words.{Some, None, contents, get, prop_cmp, slot_cmp, rules, prop_total, first-none, first-found, first-skipped}
use Rattle.moo_memory.proofs.Keys.{keys-define}
use Rattle.moo_rows.specs.Exact.{prop_exact}
use Rattle.moo_memory.proofs.flat.FlatRows.next_defined.Goals as goal

pub returns-in-None : goal.returns-in-None
returns-in-None c =
    rw (← c.self.view_is) (c.loop-key.invariant None (first-none prop_total prop_exact _ _ (keys-define (get (contents prop_cmp c.self.inside.props)) (contents slot_cmp c.self.inside.definers) c.self.invariant.1 c.args.x) c.loop-key.last c.in-None.ensures))

pub returns-then-row_defined : goal.returns-then-row_defined
returns-then-row_defined c =
    rw (← c.self.view_is) (c.loop-key.invariant (Some c.in-Some.key) (first-found prop_total prop_exact _ _ (keys-define (get (contents prop_cmp c.self.inside.props)) (contents slot_cmp c.self.inside.definers) c.self.invariant.1 c.args.x) c.loop-key.last c.in-Some.key c.in-Some.ensures (search rules)))

pub loop-key-preserved : goal.loop-key-preserved
loop-key-preserved c =
    λ r next. c.loop-key.invariant r (first-skipped prop_total prop_exact _ _ (keys-define (get (contents prop_cmp c.self.inside.props)) (contents slot_cmp c.self.inside.definers) c.self.invariant.1 c.args.x) c.loop-key.last c.in-Some.key c.in-Some.ensures (search rules) r next)
