use Rattle.moo_memory.proofs.Words.{◌≡◌, false, Some, None, rules, sym, ap, ◌∙◌, is_some, get, contents, prop_cmp, named_cmp, row_named, PropId, prop_total, first-none, first-found, first-skipped, named-covers}
use Rattle.moo_memory.proofs.Keys.{keys-name}
use Rattle.moo_rows.specs.Exact.{prop_exact}
use Rattle.moo_memory.proofs.flat.FlatRows.next_named.Goals as goal

pub returns-in-None : goal.returns-in-None
returns-in-None c =
    let names = contents named_cmp c.self.inside.names in
    let covers : (q : PropId) → is_some (get names ((c.args.x, c.args.hash), q)) ≡ false → row_named c.args.x c.args.name.now (get (contents prop_cmp c.self.inside.props) q) ≡ false =
    λ q e. named-covers (get (contents prop_cmp c.self.inside.props)) names (keys-name (get (contents prop_cmp c.self.inside.props)) names c.self.invariant.2) c.args.x c.args.name.now q (ap (λ h. is_some (get names ((c.args.x, h), q))) (sym c.requires) ∙ e) in
    rw (← c.self.view_is) (c.loop-key.invariant None (first-none prop_total prop_exact _ _ covers c.loop-key.last c.in-None.ensures))

pub returns-then-row_named : goal.returns-then-row_named
returns-then-row_named c =
    let names = contents named_cmp c.self.inside.names in
    let covers : (q : PropId) → is_some (get names ((c.args.x, c.args.hash), q)) ≡ false → row_named c.args.x c.args.name.now (get (contents prop_cmp c.self.inside.props) q) ≡ false =
    λ q e. named-covers (get (contents prop_cmp c.self.inside.props)) names (keys-name (get (contents prop_cmp c.self.inside.props)) names c.self.invariant.2) c.args.x c.args.name.now q (ap (λ h. is_some (get names ((c.args.x, h), q))) (sym c.requires) ∙ e) in
    rw (← c.self.view_is) (c.loop-key.invariant (Some c.in-Some.key) (first-found prop_total prop_exact _ _ covers c.loop-key.last c.in-Some.key c.in-Some.ensures (search rules)))

pub loop-key-preserved : goal.loop-key-preserved
loop-key-preserved c =
    let names = contents named_cmp c.self.inside.names in
    let covers : (q : PropId) → is_some (get names ((c.args.x, c.args.hash), q)) ≡ false → row_named c.args.x c.args.name.now (get (contents prop_cmp c.self.inside.props) q) ≡ false =
    λ q e. named-covers (get (contents prop_cmp c.self.inside.props)) names (keys-name (get (contents prop_cmp c.self.inside.props)) names c.self.invariant.2) c.args.x c.args.name.now q (ap (λ h. is_some (get names ((c.args.x, h), q))) (sym c.requires) ∙ e) in
    λ r next. c.loop-key.invariant r (first-skipped prop_total prop_exact _ _ covers c.loop-key.last c.in-Some.key c.in-Some.ensures (search rules) r next)
