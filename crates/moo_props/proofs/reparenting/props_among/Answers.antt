use Rattle.moo_props.{proofs.Words.{arith, ◌++◌, sym, ap, ◌∙◌, filter, slots_of_left, ids_among, is_defined_only, is_key}, proofs.AmongSlots.{slots_are_props}, proofs.Steps.{kept}}
use Rattle.moo_props.proofs.reparenting.props_among.Goals as goal

pub loop-key-init : goal.loop-key-init
loop-key-init g c =
    let t = (g.R.Rows.held c.args.rows.now).maps in
    let left = ap (λ walk. slots_of_left walk.object walk.last (g.R.Rows.held walk.rows.now).maps) c.into_iter-key-iterator.ensures.into_iter_gives ∙ c.each_slot_of-key-items.ensures in
    (λ i. c.new-found.ensures.items i ++ ids_among (filter (λ e. is_defined_only (is_key c.args.these.now) (is_key c.args.others.now) t e.0.1) (left i)))
    ∙ slots_are_props t c.requires.good c.args.y (is_key c.args.these.now) (is_key c.args.others.now) c.requires.within

pub loop-key-preserved-in-Continue-branch-2 : goal.loop-key-preserved-in-Continue-branch-2
loop-key-preserved-in-Continue-branch-2 g c =
    let t = (g.R.Rows.held c.args.rows.now).maps in
    kept (λ e. e.0.1) (λ e. is_defined_only (is_key c.args.these.now) (is_key c.args.others.now) t e.0.1) c.loop-key.found.items _ _ (c.in-Some.key, c.in-Some._slot.now) c.in-Some.ensures.steps _ (sym c.is_defined_only.ensures ∙ c.if-is_defined_only.true) c.in_ok-push.ensures.items
    ∙ c.loop-key.invariant
