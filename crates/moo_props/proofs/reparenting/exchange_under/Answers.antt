use Rattle.moo_props.{proofs.Words.{arith, ◌∙◌, keys_by, slots_moved}, proofs.Folding.{ids_same}}
use Rattle.moo_props.proofs.reparenting.exchange_under.Goals as goal

pub returns : goal.returns
returns g c = record {
  rows =
      c.in_ok-exchange_slots.ensures
      ∙ (λ i. slots_moved (ids_same c.args.x c.args.lost.now i) ((c.as_slice-2.ensures.value ∙ c.in_ok-fresh.ensures) i) ((c.as_slice.ensures.value ∙ c.in_ok-under.ensures) i) (g.R.Rows.held c.args.rows.now));
  removed = c.in_ok-removed.ensures ∙ (λ i. keys_by (ids_same c.args.x c.args.lost.now i) ((c.as_slice-3.ensures.value ∙ c.in_ok-under.ensures) i));
  added = c.in_ok-added.ensures ∙ (λ i. keys_by (ids_same c.args.x c.args.gained.now i) ((c.as_slice-4.ensures.value ∙ c.in_ok-under.ensures) i));
}
