use Rattle.moo_props.{proofs.Words.{arith, FitsSigned, w32, rules, ◌≡◌, refl, ap, ◌∙◌, Maps, Held, look_ups, world_of, world_shown, World, read_of, number_within, with_new_row, origins_among, with_fresh, numbers_same, beside_world}, proofs.Shared.{good_by, keeps-fresh, same_base, same_maps, walk}, proofs.NewSlots.{with_new, look_ups-new}, proofs.NewObject.{world_new, formed_new, sound_new, no_row}}
use Rattle.moo_props.proofs.birth.make_object.Goals as goal
use Rattle.moo_world.proofs.Ownership.Created.{read_old}

abbrev t : (g : _) → goal.After-drop-inherited-2 g → Maps
t g c = (g.R.Rows.held c.args.rows.now).maps

ends : (g : _) (c : goal.After-drop-inherited-2 g) → g.R.Rows.held c.put_fresh.new.rows ≡ with_fresh c.args.x c.args.owner (origins_among (walk (t g c) c.args.parent)) (with_new_row c.args.x c.args.parent c.args.owner (g.R.Rows.held c.args.rows.now))
ends g c = c.in_ok-put_fresh.ensures ∙ (λ i. with_fresh c.args.x c.args.owner ((c.as_slice.ensures.value ∙ c.in_ok-inherited.ensures) i) (c.in_ok-put_new.ensures i))

shown : (g : _) (c : goal.After-drop-inherited-2 g) → look_ups (g.R.Rows.held c.put_fresh.new.rows).maps ≡ with_new (look_ups (t g c)) c.args.x c.args.parent c.args.owner
shown g c =
    let free = no_row (look_ups (t g c)) c.requires.good.sound c.requires.good.formed c.args.x c.args.parent c.args.owner c.requires.next c.requires.parent in
    ap (λ (h : Held). look_ups h.maps) (ends g c) ∙ look_ups-new (t g c) c.requires.good.sound c.args.x c.args.parent c.args.owner free (g.R.Rows.held c.args.rows.now) refl

pub returns-clause-world : goal.returns-clause-world
returns-clause-world g c = ap world_shown (shown g c) ∙ world_new (look_ups (t g c)) c.requires.good.sound c.requires.good.formed c.args.x c.args.parent c.args.owner c.requires.next c.requires.parent

pub returns-clause-kept : goal.returns-clause-kept
returns-clause-kept g c =
    let m = look_ups (t g c) in
    let owner : FitsSigned w32 c.args.owner.0 = search rules in
    let os = origins_among (walk (t g c) c.args.parent) in
    let held1 = with_new_row c.args.x c.args.parent c.args.owner (g.R.Rows.held c.args.rows.now) in
    let rest = ap (λ (h : Held). h.maps) (ends g c) ∙ same_maps (keeps-fresh c.args.x c.args.owner os held1) (with_fresh c.args.x c.args.owner os held1).maps.slots in
    record {
      good = good_by (t g c) (g.R.Rows.held c.put_fresh.new.rows).maps c.requires.good (with_new m c.args.x c.args.parent c.args.owner) (shown g c) (sound_new m c.requires.good.sound c.requires.good.formed c.args.x c.args.parent c.args.owner c.requires.next c.requires.parent) (world_shown (with_new m c.args.x c.args.parent c.args.owner)) (ap world_shown (shown g c)) (formed_new m c.requires.good.sound c.requires.good.formed c.args.x c.args.parent c.args.owner c.requires.next c.requires.parent (number_within c.args.owner owner)) (ap beside_world rest);
      beside = ap beside_world rest;
      base = ap (λ (h : Held). h.base) (ends g c) ∙ same_base (keeps-fresh c.args.x c.args.owner os held1);
      numbers = numbers_same (t g c) (g.R.Rows.held c.put_fresh.new.rows).maps (ap (λ (m : Maps). m.props) rest) (ap (λ (m : Maps). m.verbs) rest) (ap (λ (m : Maps). m.head.next_prop) rest) (ap (λ (m : Maps). m.head.next_verb) rest);
    }

pub returns-clause-reads : goal.returns-clause-reads
returns-clause-reads g c o n h = grind (arith, returns-clause-world, read_old)
