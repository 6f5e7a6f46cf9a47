use Rattle.moo_props.{proofs.Words.{arith, FitsSigned, w32, rules, ◌≡◌, ◌+◌, refl, ap, ◌∙◌, Maps, Held, wrote, PropId, SlotRow, Set, property_added, look_ups, world_of, world_shown, prop_id, number_within, slot_within, insert, Origin, with_definition, owners_under, verbs_stay, as_high, beside_world, slots_moved, [], ◌∷◌}, proofs.Shared.{good_by, same_base}, proofs.NewProp.{sound_with, world_with, formed_with, with_property}, proofs.Folding.{ids_same}, proofs.Moved.{keeps-moved}, proofs.NewPropRows.{look_ups-with, held2, only2}}
use Rattle.moo_props.proofs.defining.define.Goals as goal
use Rattle.moo_world.{specs.Numbers.{prop_added}, proofs.Shown.NumbersKept.{one_higher}}

abbrev t : (g : _) → goal.After-drop-under-2 g → Maps
t g c = (g.R.Rows.held c.args.rows.now).maps

abbrev row : (g : _) → goal.After-drop-under-2 g → SlotRow
row g c = record { owner = c.args.owner; bits = c.args.bits; state = Set c.args.value }

id_is : (g : _) (c : goal.After-drop-under-2 g) → c.in_ok-id.id ≡ prop_id (t g c).head.next_prop
id_is g c = ap prop_id c.in_ok-id.ensures.id

ends : (g : _) (c : goal.After-drop-under-2 g) → g.R.Rows.held c.put_slot.new.self ≡ held2 (t g c) c.requires.good.formed.tree c.args.x c.requires.object c.args.name (row g c) (prop_id (t g c).head.next_prop) refl (g.R.Rows.held c.args.rows.now) refl
ends g c =
    c.in_ok-put_slot.ensures.ok
    ∙ (λ i. put (id_is g c i) ((c.in_ok-exchange_slots.ensures ∙ (λ k. slots_moved (ids_same c.args.x [] k) (record { id = id_is g c k; owner = c.args.owner; bits = c.args.bits } ∷ []) ((c.as_slice.ensures.value ∙ c.in_ok-under.ensures) k) (c.in_ok-id.ensures.rows k))) i))
  where
    put : PropId → Held → Held
    put id held = wrote held (record (held.maps) { slots = insert held.maps.slots (c.args.x, id) (row g c) })

shown : (g : _) (c : goal.After-drop-under-2 g) → look_ups (g.R.Rows.held c.put_slot.new.self).maps ≡ with_property (look_ups (t g c)) c.args.x c.args.name (row g c)
shown g c = ap (λ (h : Held). look_ups h.maps) (ends g c) ∙ look_ups-with (t g c) c.requires.good.formed.tree c.args.x c.requires.object c.args.name (row g c) (prop_id (t g c).head.next_prop) refl (g.R.Rows.held c.args.rows.now) refl

pub returns-clause-world : goal.returns-clause-world
returns-clause-world g c = ap world_shown (shown g c) ∙ world_with (look_ups (t g c)) c.requires.good.sound c.requires.good.formed c.args.x c.args.name c.args.owner c.args.bits c.args.value c.requires.object c.requires.free

-- all but the slots
rest : (g : _) (c : goal.After-drop-under-2 g) → (g.R.Rows.held c.put_slot.new.self).maps ≡ record (t g c) { head = record ((t g c).head) { next_prop = (t g c).head.next_prop + 1 }; props = insert (t g c).props (prop_id (t g c).head.next_prop) (record { definer = c.args.x; name = c.args.name }); slots = (held2 (t g c) c.requires.good.formed.tree c.args.x c.requires.object c.args.name (row g c) (prop_id (t g c).head.next_prop) refl (g.R.Rows.held c.args.rows.now) refl).maps.slots }
rest g c = ap (λ (h : Held). h.maps) (ends g c) ∙ only2 (t g c) c.requires.good.formed.tree c.args.x c.requires.object c.args.name (row g c) (prop_id (t g c).head.next_prop) refl (g.R.Rows.held c.args.rows.now) refl

pub returns-clause-props : goal.returns-clause-props
returns-clause-props g c = ap (λ (m : Maps). m.props) (rest g c)

pub returns-clause-kept : goal.returns-clause-kept
returns-clause-kept g c =
    let m = look_ups (t g c) in
    let owner : FitsSigned w32 c.args.owner.0 = search rules in
    let o : Origin = record { id = prop_id (t g c).head.next_prop; owner = c.args.owner; bits = c.args.bits } in
    let under = owners_under (t g c) c.args.x in
    let first = with_definition c.args.x c.args.name (g.R.Rows.held c.args.rows.now) in
    record {
      good = good_by (t g c) (g.R.Rows.held c.put_slot.new.self).maps c.requires.good (with_property (look_ups (t g c)) c.args.x c.args.name (row g c)) (shown g c) (sound_with m c.requires.good.sound c.requires.good.formed c.args.x c.args.name c.args.owner c.args.bits c.args.value c.requires.object c.requires.free) (property_added (world_of (t g c)) c.args.x c.args.name (record { definer = c.args.x; owner = c.args.owner; bits = c.args.bits; state = Set c.args.value })) (returns-clause-world g c) (formed_with m c.requires.good.sound c.requires.good.formed c.args.x c.args.name c.args.owner c.args.bits c.args.value c.requires.object c.requires.free c.requires.name c.requires.left (slot_within (record { definer = c.args.x; owner = c.args.owner; bits = c.args.bits; state = Set c.args.value }) (number_within c.args.owner owner) c.requires.fit)) (ap beside_world (rest g c));
      beside = ap beside_world (rest g c);
      base = ap (λ (h : Held). h.base) (ends g c) ∙ same_base (keeps-moved (λ y. []) (o ∷ []) under first);
      numbers = record {
        props = prop_added (record { definer = c.args.x; name = c.args.name }) (ap (λ (m : Maps). m.props) (rest g c));
        verbs = verbs_stay (ap (λ (m : Maps). m.verbs) (rest g c));
        next_prop = one_higher (t g c).head.next_prop (g.R.Rows.held c.put_slot.new.self).maps.head.next_prop (ap (λ (m : Maps). m.head.next_prop) (rest g c));
        next_verb = as_high (t g c).head.next_verb (g.R.Rows.held c.put_slot.new.self).maps.head.next_verb (ap (λ (m : Maps). m.head.next_verb) (rest g c));
      };
    }
