use Rattle.moo_props.{proofs.Words.{arith, ◌≡◌, Some, sym, ap, ◌∙◌, get, insert, PropRow, Maps, Held, property_renamed, look_ups, world_of, world_shown, verbs_stay, beside_world}, proofs.Kept.{good_by, numbers_by}, proofs.RenamedRows.{with_new_name, look_ups-property_renamed, world_renamed, sound_renamed, formed_renamed}, proofs.ShorterRows.{own_row, spelled}}
use Rattle.moo_props.proofs.renaming.rename.Goals as goal
use Rattle.moo_world.specs.Numbers.{prop_renamed}

abbrev t : (g : _) → goal.In_ok-put_prop g → Maps
t g c = (g.R.Rows.held c.args.rows.now).maps

prop : (g : _) (c : goal.In_ok-put_prop g) → (p : PropRow) × (get (t g c).props c.args.id ≡ Some p) × (p.definer ≡ c.args.x)
prop g c = own_row (t g c) c.args.x c.args.id c.requires.own

shown : (g : _) (c : goal.In_ok-put_prop g) → look_ups (g.R.Rows.held c.put_prop.new.self).maps ≡ with_new_name (look_ups (t g c)) c.args.x c.args.id.0 c.args.name
shown g c = ap (λ (h : Held). look_ups h.maps) c.in_ok-put_prop.ensures.ok ∙ look_ups-property_renamed (t g c) c.args.x c.args.id.0 c.args.name

world : (g : _) (c : goal.In_ok-put_prop g) → world_of (g.R.Rows.held c.put_prop.new.self).maps ≡ property_renamed (world_of (t g c)) c.args.x (prop g c).0.name c.args.name
world g c = ap world_shown (shown g c) ∙ world_renamed (t g c) c.requires.good c.args.x c.args.id.0 (prop g c).0 (prop g c).1 (prop g c).2 c.args.name c.requires.free

beside : (g : _) (c : goal.In_ok-put_prop g) → beside_world (g.R.Rows.held c.put_prop.new.self).maps ≡ beside_world (t g c)
beside g c = ap (λ (h : Held). beside_world h.maps) c.in_ok-put_prop.ensures.ok

pub returns-clause-world : goal.returns-clause-world
returns-clause-world g c = world g c ∙ ap (λ n. property_renamed (world_of (t g c)) c.args.x n c.args.name) (sym (spelled (t g c) c.args.id (prop g c).0 (prop g c).1))

pub returns-clause-kept : goal.returns-clause-kept
returns-clause-kept g c = record {
  good = good_by (t g c) (g.R.Rows.held c.put_prop.new.self).maps c.requires.good (with_new_name (look_ups (t g c)) c.args.x c.args.id.0 c.args.name) (shown g c) (sound_renamed (t g c) c.requires.good c.args.x c.args.id.0 (prop g c).0 (prop g c).1 (prop g c).2 c.args.name c.requires.free) (property_renamed (world_of (t g c)) c.args.x (prop g c).0.name c.args.name) (world g c) (formed_renamed (t g c) c.requires.good c.args.x c.args.id.0 (prop g c).0 (prop g c).1 (prop g c).2 c.args.name c.requires.free c.requires.name) (beside g c);
  beside = beside g c;
  base = ap (λ (h : Held). h.base) c.in_ok-put_prop.ensures.ok;
  numbers = numbers_by (t g c) (g.R.Rows.held c.put_prop.new.self).maps
      (prop_renamed c.args.id (prop g c).0 c.args.name (prop g c).1 (ap (λ (h : Held). h.maps.props) c.in_ok-put_prop.ensures.ok ∙ ap (λ d. insert (t g c).props c.args.id (record { definer = d; name = c.args.name })) (sym (prop g c).2)))
      (verbs_stay (ap (λ (h : Held). h.maps.verbs) c.in_ok-put_prop.ensures.ok)) (ap (λ (h : Held). h.maps.head) c.in_ok-put_prop.ensures.ok);
}
