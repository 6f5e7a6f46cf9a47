use Rattle.moo_props.{proofs.Words.{arith, ◌+ℤ◌, FitsSigned, w64, rules, sym, ◌∙◌, ap, to_z-of_z, Int, Set, with_slot_of, world_of, spelling_of}, proofs.Quotas.{moved, folded_spelling}}
use Rattle.moo_props.proofs.quota.change_quota.Goals as goal
use Rattle.moo_rows.specs.declared.row.SlotState.{SlotState}

pub returns-clause-world : goal.returns-clause-world
returns-clause-world g c =
    let m = (g.R.Rows.held c.args.rows.now).maps in
    let had : FitsSigned w64 c.in-Some.here.1 = search rules in
    let by : FitsSigned w64 c.args.by = c.ranges.by in
    c.in_ok-put_state.ensures.world
    ∙ ap (λ (state : SlotState). with_slot_of (world_of m) c.args.o (spelling_of m c.in-Some.here.0) (λ s. record s { state = state })) (c.set_to.ensures ∙ (λ i. Set (Int (to_z-of_z w64 c.in-Some.here.1 had i +ℤ to_z-of_z w64 c.args.by by i))))
    ∙ moved (world_of m) c.args.o (spelling_of m c.in-Some.here.0) c.in-Some.here.1 c.args.by (folded_spelling m c.in-Some.here.0 ∙ c.in-Some.ensures.named) (sym c.in-Some.ensures.quota)
