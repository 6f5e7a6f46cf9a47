use Rattle.moo_props.proofs.Words.{arith, ObjNo, pos, get_or, sym, ap, ◌∙◌, with_fresh, without_on}
use Rattle.std.proofs.lemmas.List.Sums.{fold_more}
use Rattle.moo_props.proofs.slots.exchange_slots.Goals as goal

pub loop-y-preserved : goal.loop-y-preserved
loop-y-preserved g c =
    let none : ObjNo = record { 0 = pos 0 } in
    let y = (get_or c.args.under.now c.loop-y.y-index (none, none)).0 in
    c.in_ok-put_fresh.ensures
    ∙ ap (with_fresh y _ c.args.gained.now) (c.in_ok-remove_on.ensures ∙ (λ i. without_on y (c.ids_for.ensures i) (c.loop-y.invariant i)))
    ∙ sym (fold_more _ _ c.args.under.now c.loop-y.y-index _ c.loop-y-test.true)
