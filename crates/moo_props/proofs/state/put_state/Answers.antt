use Rattle.moo_props.{proofs.Words.{arith, refl, sym, ap, ◌∙◌, subst, Held, world_of, slot_within, IsSameButSlots, slots_only}, proofs.States.{put_slot_world, put_slot_good}}
use Rattle.moo_props.proofs.state.put_state.Goals as goal
use Rattle.moo_world.{specs.Keeps.{Keeps}, proofs.Form.Limits.{slot_owner}}

pub returns : goal.returns
returns g c = record {
  world =
      ap (λ (h : Held). world_of h.maps) c.in_ok-put_slot.ensures.ok
      ∙ put_slot_world (g.R.Rows.held c.args.rows.now).maps c.requires.good.sound c.args.x c.args.id c.in-Some.slot.now (sym c.in-Some.ensures) (record (c.in-Some.slot.now) { state = c.args.state }) (λ s. record s { state = c.args.state }) (λ d. refl);
  kept = subst (Keeps (g.R.Rows.held c.args.rows.now)) (sym c.in_ok-put_slot.ensures.ok) (record {
    good = put_slot_good (g.R.Rows.held c.args.rows.now).maps c.requires.good.sound c.args.x c.args.id c.in-Some.slot.now (sym c.in-Some.ensures) (record (c.in-Some.slot.now) { state = c.args.state }) (λ s. record s { state = c.args.state }) (λ d. refl) c.requires.good.formed (λ s. refl) c.requires.set (λ s h. slot_within (record s { state = c.args.state }) (slot_owner s h) c.requires.fit) c.requires.good.petitions;
    beside = refl;
    base = refl;
    numbers = slots_only (g.R.Rows.held c.args.rows.now).maps _ refl;
  });
  rest = subst (λ (h : Held). IsSameButSlots (g.R.Rows.held c.args.rows.now).maps h.maps) (sym c.in_ok-put_slot.ensures.ok) refl;
}
