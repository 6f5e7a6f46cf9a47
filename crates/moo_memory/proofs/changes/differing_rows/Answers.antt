use Rattle.std.{proofs.Common.{◌≡◌, Option, sym, ◌∙◌, subst}, proofs.lemmas.Bool.{true≢false}}
use Rattle.moo_memory.{proofs.Words.{get}, specs.Without.{Without}, proofs.Changing.{one-kept, one-left_out, all-seen, without-changes}}
use Rattle.moo_memory.proofs.changes.differing_rows.Goals as goal

pub loop-key-preserved-in-Continue-1 : goal.loop-key-preserved-in-Continue-1
loop-key-preserved-in-Continue-1 g c =
    let differs : ¬ (get (g.V.KeyedRow.map_of (g.R.Rows.held c.args.base.now).maps) c.in-Some.key ≡ c.in-Some.row) = λ e. true≢false (sym (c.has_row.ensures.1 (c.find.ensures ∙ e)) ∙ c.if-not-has_row.true) in
    one-kept (λ e. get (g.V.KeyedRow.map_of (g.R.Rows.held c.args.base.now).maps) e.0 ≡ e.1) c.args.changes.entries c.loop-key.changed.items c.loop-key.key-iterator (c.in-Some.key, c.in-Some.row) c.push.new.self.items c.next.new.self
    c.in-Some.ensures.steps c.in_ok-push.ensures.items differs c.loop-key.invariant

pub loop-key-preserved : goal.loop-key-preserved
loop-key-preserved g c =
    let same : get (g.V.KeyedRow.map_of (g.R.Rows.held c.args.base.now).maps) c.in-Some.key ≡ c.in-Some.row = sym c.find.ensures ∙ c.has_row.ensures.0 c.if-not-has_row.false in
    one-left_out (λ e. get (g.V.KeyedRow.map_of (g.R.Rows.held c.args.base.now).maps) e.0 ≡ e.1) c.args.changes.entries c.loop-key.changed.items c.loop-key.key-iterator (c.in-Some.key, c.in-Some.row) c.next.new.self
    c.in-Some.ensures.steps same c.loop-key.invariant

pub loop-key-preserved-else-not-has_row : goal.loop-key-preserved-else-not-has_row
loop-key-preserved-else-not-has_row g c =
    let same : get (g.V.KeyedRow.map_of (g.R.Rows.held c.args.base.now).maps) c.in-Some.key ≡ c.in-Some.row = sym c.find.ensures ∙ c.has_row.ensures.0 c.if-not-has_row.false in
    one-left_out (λ e. get (g.V.KeyedRow.map_of (g.R.Rows.held c.args.base.now).maps) e.0 ≡ e.1) c.args.changes.entries c.loop-key.changed.items c.loop-key.key-iterator (c.in-Some.key, c.in-Some.row) c.next.new.self
    c.in-Some.ensures.steps same c.loop-key.invariant

pub returns : goal.returns
returns g c =
    let P = λ (e : g.row.V-Key.Denot × Option g.row.V.Denot). get (g.V.KeyedRow.map_of (g.R.Rows.held c.args.base.now).maps) e.0 ≡ e.1 in
    let all = all-seen P c.args.changes.entries c.loop-key.changed.items c.loop-key.key-iterator c.in-None.ensures.steps.0 c.loop-key.invariant in
    without-changes g.met.V.Key.Ord.total g.met.V.Key.OrderedKey.exact (get (g.V.KeyedRow.map_of (g.R.Rows.held c.args.base.now).maps)) c.args.changes c.from_vec.result c.into_iter-key-iterator.ensures.into_iter_gives.5
    (subst (Without P c.args.changes.entries) (sym c.from_vec.ensures) all)
