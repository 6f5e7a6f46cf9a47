use Rattle.moo_props.{proofs.Words.{arith, rules, ◌≡◌, refl, sym, ap, ◌∙◌, subst, ObjNo, Held, SlotRow, world_of, slot_seen, Slot, number_within, slot_within, IsSameButSlots, slots_only}, proofs.States.{put_slot_world, put_slot_good, clear_inherited}}
use Rattle.moo_props.proofs.state.set_info.Goals as goal
use Rattle.moo_world.{specs.Keeps.{Keeps}, proofs.Form.Limits.{slot_state}}

abbrev next : (g : _) → goal.In_ok-put_slot g → SlotRow
next g c = record (c.in_ok-row-in-Some.row) { owner = c.args.owner; bits = c.args.bits }

abbrev change : (g : _) → goal.In_ok-put_slot g → Slot → Slot
change g c s = record s { owner = c.args.owner; bits = c.args.bits }

agrees : (g : _) (c : goal.In_ok-put_slot g) (d : ObjNo) → change g c (slot_seen d c.in-Some.row.now) ≡ slot_seen d (next g c)
agrees g c d = ap (λ (row : SlotRow). slot_seen d (record row { owner = c.args.owner; bits = c.args.bits })) (sym c.in_ok-row-in-Some.ensures)

pub returns : goal.returns
returns g c = record {
  world =
      ap (λ (h : Held). world_of h.maps) c.in_ok-put_slot.ensures.ok
      ∙ put_slot_world (g.R.Rows.held c.args.rows.now).maps c.requires.good.sound c.args.x c.args.id c.in-Some.row.now (sym c.in-Some.ensures) (next g c) (change g c) (agrees g c);
  kept = subst (Keeps (g.R.Rows.held c.args.rows.now)) (sym c.in_ok-put_slot.ensures.ok) (record {
    good = put_slot_good (g.R.Rows.held c.args.rows.now).maps c.requires.good.sound c.args.x c.args.id c.in-Some.row.now (sym c.in-Some.ensures) (next g c) (change g c) (agrees g c) c.requires.good.formed (λ s. refl) (λ e. clear_inherited (g.R.Rows.held c.args.rows.now).maps c.requires.good c.args.x c.args.id c.in-Some.row.now (sym c.in-Some.ensures) (sym (ap (λ (row : SlotRow). row.state) c.in_ok-row-in-Some.ensures) ∙ e)) (λ s h. slot_within (change g c s) (number_within c.args.owner (search rules)) (slot_state s h)) c.requires.good.petitions;
    beside = refl;
    base = refl;
    numbers = slots_only (g.R.Rows.held c.args.rows.now).maps _ refl;
  });
  rest = subst (λ (h : Held). IsSameButSlots (g.R.Rows.held c.args.rows.now).maps h.maps) (sym c.in_ok-put_slot.ensures.ok) refl;
}
