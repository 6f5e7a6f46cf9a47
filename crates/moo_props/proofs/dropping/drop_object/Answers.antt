use Rattle.moo_props.{proofs.Words.{◌≡◌, refl, sym, ap, ◌∙◌, subst, [], ◌∷◌, length, arith, Some, is_some, get, entries, false≢true, Held, Maps, without_object, object_cmp, prop_cmp, slot_cmp, verb_cmp, recycled, look_ups, world_of, world_shown, is_object_seen, dropped_keys, linked_among, ids_among, owners_under, props_removed, verbs_removed, rows_released, ArePresent, AreAbsent, AreAscending, props_of, beside_world, slots_moved, keys_by, ids_for}, proofs.Kept.{good_by, numbers_by}, proofs.Walked.{walk}, proofs.Lessened.{world_less, sound_less, less_object}, proofs.LessRows.{look_ups-less, held1, held5, only5, base5}, proofs.Ascending.{ascend, props_rise, verbs_ascend, linked_ascend}, proofs.DroppedKeys.{dropped_list, dropped_ascend, dropped_had}, proofs.LeftRows.{writes5, slots_left, props_left, verbs_left, objects_left, left_is, dropped_gone, relinked_there}}
use Rattle.moo_props.proofs.dropping.drop_object.Goals as goal
use Rattle.moo_world.{specs.Numbers.{props_dropped, verbs_dropped}, proofs.Inheritance.Recycling.{IsWellFormed-recycled}}

abbrev before : (g : _) → goal.After-from_vec g → Held
before g c = g.R.Rows.held c.args.rows.now

here : (g : _) (c : goal.After-from_vec g) → get (before g c).maps.objects c.args.x ≡ Some c.in-Some.row.now
here g c = sym c.in-Some.ensures

first : (g : _) (c : goal.After-from_vec g) → g.R.Rows.held c.drop_slots_under.new.rows ≡ held1 (before g c).maps c.requires.good c.args.x c.in-Some.row.now (here g c) (before g c) refl
first g c =
    c.in_ok-removed.ensures.rows
    ∙ (λ i. slots_moved (ids_for c.args.x (ids_among (walk (before g c).maps c.args.x)) ((c.as_slice.ensures.value ∙ c.in_ok-own.ensures) i)) [] (owners_under (before g c).maps c.args.x) (before g c))

ends : (g : _) (c : goal.After-from_vec g) → g.R.Rows.held c.drop_rows.new.rows ≡ held5 (before g c).maps c.requires.good c.args.x c.in-Some.row.now (here g c) (before g c) refl
ends g c =
    c.in_ok-drop_rows.ensures
    ∙ (λ i. without_object (rows_released c.args.x c.in-Some.row.now.parent ((c.as_slice-4.ensures.value ∙ c.in_ok-relinked.ensures) i)
    (verbs_removed ((c.as_slice-3.ensures.value ∙ c.in_ok-verbs.ensures) i)
    (props_removed ((c.as_slice-2.ensures.value ∙ c.in_ok-own.ensures) i) (first g c i)))) c.args.x)

shown : (g : _) (c : goal.After-from_vec g) → look_ups (g.R.Rows.held c.drop_rows.new.rows).maps ≡ less_object (look_ups (before g c).maps) c.args.x c.in-Some.row.now.parent
shown g c = ap (λ (h : Held). look_ups h.maps) (ends g c) ∙ look_ups-less (before g c).maps c.requires.good c.args.x c.in-Some.row.now (here g c) (before g c) refl

world : (g : _) (c : goal.After-from_vec g) → world_of (g.R.Rows.held c.drop_rows.new.rows).maps ≡ recycled (world_of (before g c).maps) c.args.x
world g c = ap world_shown (shown g c) ∙ world_less (look_ups (before g c).maps) c.requires.good.sound c.requires.good.formed c.args.x c.in-Some.row.now (here g c)

pub unreachable-requires : goal.unreachable-requires
unreachable-requires g c = false≢true (ap is_some c.in-None.ensures ∙ sym (is_object_seen (look_ups (g.R.Rows.held c.args.rows.now).maps) c.args.x) ∙ c.requires.object)

head_is : (g : _) (c : goal.After-from_vec g) → (g.R.Rows.held c.drop_rows.new.rows).maps.head ≡ (before g c).maps.head
head_is g c = ap (λ (h : Held). h.maps.head) (ends g c) ∙ ap (λ (k : Maps). k.head) (only5 (before g c).maps c.requires.good c.args.x c.in-Some.row.now (here g c) (before g c) refl)

beside : (g : _) (c : goal.After-from_vec g) → beside_world (g.R.Rows.held c.drop_rows.new.rows).maps ≡ beside_world (before g c).maps
beside g c = ap (λ (h : Held). beside_world h.maps) (ends g c) ∙ ap beside_world (only5 (before g c).maps c.requires.good c.args.x c.in-Some.row.now (here g c) (before g c) refl)

removed_is : (g : _) (c : goal.After-from_vec g) → c.in_ok-removed.removed ≡ dropped_keys (before g c).maps c.args.x
removed_is g c =
    c.in_ok-removed.ensures.list
    ∙ (λ i. keys_by (ids_for c.args.x (ids_among (walk (before g c).maps c.args.x)) ((c.as_slice.ensures.value ∙ c.in_ok-own.ensures) i)) (owners_under (before g c).maps c.args.x))
    ∙ dropped_list (before g c).maps c.requires.good c.args.x c.in-Some.row.now (here g c)

relinked_is : (g : _) (c : goal.After-from_vec g) → c.from_vec.result ≡ linked_among c.args.x (entries (before g c).maps.objects)
relinked_is g c = c.from_vec.ensures ∙ c.in_ok-relinked.ensures

pub returns : goal.returns
returns g c = record {
  lists = record {
    removed = removed_is g c;
    props = c.in_ok-own.ensures;
    verbs = c.in_ok-verbs.ensures;
    relinked = relinked_is g c;
    removed_order = subst (AreAscending slot_cmp) (sym (removed_is g c)) (dropped_ascend (before g c).maps c.requires.good c.args.x c.in-Some.row.now (here g c));
    props_order = subst (AreAscending prop_cmp) (sym c.in_ok-own.ensures) (ascend prop_cmp (props_of (c.args.x ∷ []) (before g c).maps.props) (props_rise (before g c).maps (c.args.x ∷ [])));
    verbs_order = subst (AreAscending verb_cmp) (sym c.in_ok-verbs.ensures) (verbs_ascend (before g c).maps c.args.x);
    relinked_order = subst (AreAscending object_cmp) (sym (relinked_is g c)) (linked_ascend (before g c).maps c.args.x);
    had = dropped_had (before g c).maps c.requires.good c.args.x c.in-Some.row.now (here g c);
  };
  leaves = record {
    gone = subst (λ (h : Held). AreAbsent h.maps.slots (dropped_keys (before g c).maps c.args.x)) (sym (ends g c)) (dropped_gone (before g c).maps c.requires.good c.args.x c.in-Some.row.now (here g c) (before g c) refl);
    stay = subst (λ (h : Held). ArePresent h.maps.objects (linked_among c.args.x (entries (before g c).maps.objects))) (sym (ends g c)) (relinked_there (before g c).maps c.requires.good c.args.x c.in-Some.row.now (here g c) (before g c) refl);
    slots_left = λ key. ap (λ (h : Held). get h.maps.slots key) (ends g c) ∙ slots_left (before g c).maps c.requires.good c.args.x c.in-Some.row.now (here g c) (before g c) refl key;
    props_left = λ id. ap (λ (h : Held). get h.maps.props id) (ends g c) ∙ props_left (before g c).maps c.requires.good c.args.x c.in-Some.row.now (here g c) (before g c) refl id;
    verbs_left = λ key. ap (λ (h : Held). get h.maps.verbs key) (ends g c) ∙ verbs_left (before g c).maps c.requires.good c.args.x c.in-Some.row.now (here g c) (before g c) refl key;
    objects_left = λ y. ap (λ (h : Held). get h.maps.objects y) (ends g c) ∙ objects_left (before g c).maps c.requires.good c.args.x c.in-Some.row.now (here g c) (before g c) refl y;
    head = head_is g c;
  };
  world = world g c;
  kept = record {
    good = good_by (before g c).maps (g.R.Rows.held c.drop_rows.new.rows).maps c.requires.good (less_object (look_ups (before g c).maps) c.args.x c.in-Some.row.now.parent) (shown g c) (sound_less (look_ups (before g c).maps) c.requires.good.sound c.requires.good.formed c.args.x c.in-Some.row.now (here g c)) (recycled (world_of (before g c).maps) c.args.x) (world g c) (IsWellFormed-recycled (world_of (before g c).maps) c.args.x c.requires.good.formed c.requires.object) (beside g c);
    beside = beside g c;
    base = ap (λ (h : Held). h.base) (ends g c) ∙ base5 (before g c).maps c.requires.good c.args.x c.in-Some.row.now (here g c) (before g c) refl;
    numbers = numbers_by (before g c).maps (g.R.Rows.held c.drop_rows.new.rows).maps
        (props_dropped c.args.x (λ id. ap (λ (h : Held). get h.maps.props id) (ends g c) ∙ props_left (before g c).maps c.requires.good c.args.x c.in-Some.row.now (here g c) (before g c) refl id ∙ left_is (before g c).maps c.args.x id))
        (verbs_dropped c.args.x (λ key. ap (λ (h : Held). get h.maps.verbs key) (ends g c) ∙ verbs_left (before g c).maps c.requires.good c.args.x c.in-Some.row.now (here g c) (before g c) refl key))
        (head_is g c);
  };
  writes =
      let most = writes5 (before g c).maps c.requires.good c.args.x c.in-Some.row.now (here g c) (before g c) refl in
      let removed = removed_is g c ∙ sym (dropped_list (before g c).maps c.requires.good c.args.x c.in-Some.row.now (here g c)) in
      omega (arith, ap (λ (h : Held). h.writes) (ends g c), most, ap length removed, ap length c.in_ok-own.ensures, ap length c.in_ok-verbs.ensures, ap length (relinked_is g c));
}
