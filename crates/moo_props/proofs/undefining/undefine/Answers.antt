use Rattle.moo_props.{proofs.Words.{arith, ◌≡◌, Some, refl, sym, ap, ◌∙◌, get, remove, PropRow, Maps, Held, property_removed, look_ups, world_of, world_shown, owners_under, verbs_stay, beside_world, slots_moved, without_prop, [], ◌∷◌}, proofs.Shared.{good_by, numbers_by, same_base}, proofs.ShorterRows.{own_row, spelled, world_shorter, sound_shorter, less_property, look_ups-shorter, only2, held1, held2}, proofs.Folding.{ids_same}, proofs.Moved.{keeps-moved}}
use Rattle.moo_props.proofs.undefining.undefine.Goals as goal
use Rattle.moo_world.{specs.Numbers.{prop_removed}, proofs.Inheritance.Shorter.{IsWellFormed-property_removed}}

abbrev t : (g : _) → goal.After-drop-under-2 g → Maps
t g c = (g.R.Rows.held c.args.rows.now).maps

prop : (g : _) (c : goal.After-drop-under-2 g) → (p : PropRow) × (get (t g c).props c.args.id ≡ Some p) × (p.definer ≡ c.args.x)
prop g c = own_row (t g c) c.args.x c.args.id c.requires.own

ends : (g : _) (c : goal.After-drop-under-2 g) → g.R.Rows.held c.remove_prop.new.self ≡ held2 (t g c) c.requires.good c.args.x c.args.id.0 (prop g c).0 (prop g c).1 (prop g c).2 (g.R.Rows.held c.args.rows.now) refl
ends g c = grind (arith, ids_same)

shown : (g : _) (c : goal.After-drop-under-2 g) → look_ups (g.R.Rows.held c.remove_prop.new.self).maps ≡ less_property (look_ups (t g c)) c.args.id.0
shown g c = ap (λ (h : Held). look_ups h.maps) (ends g c) ∙ look_ups-shorter (t g c) c.requires.good c.args.x c.args.id.0 (prop g c).0 (prop g c).1 (prop g c).2 (g.R.Rows.held c.args.rows.now) refl

world : (g : _) (c : goal.After-drop-under-2 g) → world_of (g.R.Rows.held c.remove_prop.new.self).maps ≡ property_removed (world_of (t g c)) c.args.x (prop g c).0.name
world g c = ap world_shown (shown g c) ∙ world_shorter (t g c) c.requires.good c.args.x c.args.id.0 (prop g c).0 (prop g c).1 (prop g c).2

-- all but the slots
rest : (g : _) (c : goal.After-drop-under-2 g) → (g.R.Rows.held c.remove_prop.new.self).maps ≡ record (t g c) { slots = (held1 (t g c) c.requires.good c.args.x c.args.id.0 (prop g c).0 (prop g c).1 (prop g c).2 (g.R.Rows.held c.args.rows.now) refl).maps.slots; props = remove (t g c).props c.args.id }
rest g c = ap (λ (h : Held). h.maps) (ends g c) ∙ only2 (t g c) c.requires.good c.args.x c.args.id.0 (prop g c).0 (prop g c).1 (prop g c).2 (g.R.Rows.held c.args.rows.now) refl

pub returns : goal.returns
returns g c = record {
  world = world g c ∙ ap (property_removed (world_of (t g c)) c.args.x) (sym (spelled (t g c) c.args.id (prop g c).0 (prop g c).1));
  kept = record {
    good = good_by (t g c) (g.R.Rows.held c.remove_prop.new.self).maps c.requires.good (less_property (look_ups (t g c)) c.args.id.0) (shown g c) (sound_shorter (t g c) c.requires.good c.args.x c.args.id.0 (prop g c).0 (prop g c).1 (prop g c).2) (property_removed (world_of (t g c)) c.args.x (prop g c).0.name) (world g c) (IsWellFormed-property_removed (world_of (t g c)) c.requires.good.formed c.args.x (prop g c).0.name) (ap beside_world (rest g c));
    beside = ap beside_world (rest g c);
    base = ap (λ (h : Held). h.base) (ends g c) ∙ same_base (keeps-moved (λ y. c.args.id ∷ []) [] (owners_under (t g c) c.args.x) (g.R.Rows.held c.args.rows.now));
    numbers = numbers_by (t g c) (g.R.Rows.held c.remove_prop.new.self).maps (prop_removed c.args.id (ap (λ (k : Maps). k.props) (rest g c))) (verbs_stay (ap (λ (k : Maps). k.verbs) (rest g c))) (ap (λ (k : Maps). k.head) (rest g c));
  };
  props = ap (λ (k : Maps). k.props) (rest g c);
}
