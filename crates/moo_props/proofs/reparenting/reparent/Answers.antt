use Rattle.moo_props.{proofs.Words.{◌≡◌, length, Some, sym, ap, subst, ◌∙◌, arith, is_some, unwrap_or, [], option_map, get, false≢true, or_right, ObjNo, ObjRow, PropId, Maps, Held, slot_cmp, lost, gained, same_object, is_among, IsGood, IsWellFormed, MayReparent, chain, look_ups, world_of, IsSound, chain_of_row, is_object_seen, owners_under, slots_moved, relinked, relinked_list, props_of, removed_keys, added_keys, slot_after, IsSameButSlotsAndObjects, AreAscending, origins, keys_over, numbers_same, beside_world, petitions_stay}, proofs.Shared.{new_is, no_clash}, proofs.Moved.{lost_list, gained_list, held2, slots2, objects2, rest2, world2, sound2, base2, writes2}, proofs.Ascending.{keys_ascend}, proofs.Presence.{removed_had, added_had, removed_gone, added_there}}
use Rattle.moo_props.proofs.reparenting.reparent.Goals as goal
use Rattle.moo_world.{specs.Keeps.{Keeps}, specs.World.{reparented}, proofs.Inheritance.Reparenting.{IsWellFormed-reparented}}

-- what is kept where the rows after it are known
module _ (old : Held) (good : IsGood old.maps) (x q : ObjNo) (may : MayReparent (world_of old.maps) x q) (row : ObjRow) (here : get old.maps.objects x ≡ Some row) (new : Held) (ends : new ≡ held2 old.maps good.sound x q may row here old (λ i. old.maps)) where
  slots_are : (key : ObjNo × PropId) → get new.maps.slots key ≡ slot_after old.maps x q key
  slots_are key = ap (λ (h : Held). get h.maps.slots key) ends ∙ slots2 old.maps good.sound x q may row here old (λ i. old.maps) key

  rest_is : IsSameButSlotsAndObjects old.maps new.maps
  rest_is = subst (λ (h : Held). IsSameButSlotsAndObjects old.maps h.maps) (sym ends) (rest2 old.maps good.sound x q may row here old (λ i. old.maps))

  world_is : world_of new.maps ≡ reparented (world_of old.maps) x q
  world_is = ap (λ (h : Held). world_of h.maps) ends ∙ world2 old.maps good.sound x q may row here old (λ i. old.maps)

  kept : Keeps old new
  kept = record {
    good = record {
      sound = subst (λ (h : Held). IsSound h.maps) (sym ends) (sound2 old.maps good.sound x q may row here old (λ i. old.maps));
      formed = subst IsWellFormed (sym world_is) (IsWellFormed-reparented (world_of old.maps) x q may.well_formed may.object (new_is (world_of old.maps) x q may) may.outside (no_clash (world_of old.maps) x q may));
      petitions = petitions_stay old.maps new.maps (ap beside_world rest_is) good;
    };
    beside = ap beside_world rest_is;
    base = ap (λ (h : Held). h.base) ends ∙ base2 old.maps good.sound x q may row here old (λ i. old.maps);
    numbers = numbers_same old.maps new.maps (ap (λ (m : Maps). m.props) rest_is) (ap (λ (m : Maps). m.verbs) rest_is) (ap (λ (m : Maps). m.head.next_prop) rest_is) (ap (λ (m : Maps). m.head.next_verb) rest_is);
  }

abbrev before : (g : _) → goal.After-drop-lost-2 g → Held
before g c = g.R.Rows.held c.args.rows.now

here : (g : _) (c : goal.After-drop-lost-2 g) → get (before g c).maps.objects c.args.x ≡ Some c.in_ok-row-in-Some.row
here g c = sym c.in-Some.ensures ∙ ap Some (sym c.in_ok-row-in-Some.ensures)

lost_is : (g : _) (c : goal.After-drop-lost-2 g) → c.in_ok-lost.lost.items ≡ props_of (lost (world_of (before g c).maps) c.args.x c.args.new) (before g c).maps.props
lost_is g c = c.in_ok-lost.ensures.lost ∙ lost_list (before g c).maps c.requires.good.sound c.args.x c.args.new c.requires.may c.in_ok-row-in-Some.row (here g c)

gained_is : (g : _) (c : goal.After-drop-lost-2 g) → c.in_ok-lost.gained.items ≡ props_of (gained (world_of (before g c).maps) c.args.x c.args.new) (before g c).maps.props
gained_is g c = c.in_ok-lost.ensures.gained ∙ gained_list (before g c).maps c.requires.good.sound c.args.x c.args.new c.requires.may c.in_ok-row-in-Some.row (here g c)

ends : (g : _) (c : goal.After-drop-lost-2 g) → g.R.Rows.held c.relink.new.rows ≡ held2 (before g c).maps c.requires.good.sound c.args.x c.args.new c.requires.may c.in_ok-row-in-Some.row (here g c) (before g c) (λ i. (before g c).maps)
ends g c =
    c.in_ok-relinked.ensures.rows
    ∙ ap (relinked c.args.x c.in_ok-row-in-Some.row c.args.new) (c.in_ok-removed.ensures.rows
    ∙ (λ i. slots_moved (λ y. (c.as_slice.ensures.value ∙ lost_is g c) i) (origins (before g c).maps.slots c.args.new ((c.as_slice-2.ensures.value ∙ gained_is g c) i)) (owners_under (before g c).maps c.args.x) (before g c)))

removed_is : (g : _) (c : goal.After-drop-lost-2 g) → c.in_ok-removed.removed ≡ removed_keys (before g c).maps c.args.x c.args.new
removed_is g c = c.in_ok-removed.ensures.removed ∙ (λ i. keys_over ((c.as_slice.ensures.value ∙ lost_is g c) i) (owners_under (before g c).maps c.args.x))

added_is : (g : _) (c : goal.After-drop-lost-2 g) → c.in_ok-removed.added ≡ added_keys (before g c).maps c.args.x c.args.new
added_is g c = c.in_ok-removed.ensures.added ∙ (λ i. keys_over ((c.as_slice-2.ensures.value ∙ gained_is g c) i) (owners_under (before g c).maps c.args.x))

pub unreachable-requires : goal.unreachable-requires
unreachable-requires g c = false≢true (ap is_some c.in-None.ensures ∙ sym (is_object_seen (look_ups (g.R.Rows.held c.args.rows.now).maps) c.args.x) ∙ c.requires.may.object)

-- what is above x is of its chain
pub lost_and_gained-requires-clause-above : goal.lost_and_gained-requires-clause-above
lost_and_gained-requires-clause-above g c d h =
    let t = (g.R.Rows.held c.args.rows.now).maps in
    let row = c.in_ok-row-in-Some.row in
    let here = ap Some c.in_ok-row-in-Some.ensures ∙ c.in-Some.ensures in
    ap (is_among d) (chain_of_row (look_ups t) c.requires.good.formed.tree c.args.x row here)
    ∙ or_right (same_object d c.args.x) (is_among d (chain (world_of t) row.parent)) h

pub returns : goal.returns
returns g c = record {
  lists = record {
    removed = removed_is g c;
    added = added_is g c;
    relinked =
        c.in_ok-relinked.ensures.list
        ∙ ap (λ o. unwrap_or (option_map (λ row. relinked_list c.args.x row c.args.new) o) []) (sym (here g c));
    removed_order = subst (AreAscending slot_cmp) (sym (removed_is g c)) (keys_ascend (before g c).maps c.args.x (lost (world_of (before g c).maps) c.args.x c.args.new));
    added_order = subst (AreAscending slot_cmp) (sym (added_is g c)) (keys_ascend (before g c).maps c.args.x (gained (world_of (before g c).maps) c.args.x c.args.new));
    had = removed_had (before g c).maps c.requires.good.sound c.args.x c.args.new c.requires.may;
    lacked = added_had (before g c).maps c.requires.good.sound c.args.x c.args.new c.requires.may;
  };
  leaves = record {
    gone = removed_gone (before g c).maps c.requires.good.sound c.args.x c.args.new c.requires.may (g.R.Rows.held c.relink.new.rows).maps.slots (slots_are (before g c) c.requires.good c.args.x c.args.new c.requires.may c.in_ok-row-in-Some.row (here g c) (g.R.Rows.held c.relink.new.rows) (ends g c));
    came = added_there (before g c).maps c.requires.good.sound c.args.x c.args.new c.requires.may (g.R.Rows.held c.relink.new.rows).maps.slots (slots_are (before g c) c.requires.good c.args.x c.args.new c.requires.may c.in_ok-row-in-Some.row (here g c) (g.R.Rows.held c.relink.new.rows) (ends g c));
    slots = slots_are (before g c) c.requires.good c.args.x c.args.new c.requires.may c.in_ok-row-in-Some.row (here g c) (g.R.Rows.held c.relink.new.rows) (ends g c);
    objects = λ y. ap (λ (h : Held). get h.maps.objects y) (ends g c) ∙ objects2 (before g c).maps c.requires.good.sound c.args.x c.args.new c.requires.may c.in_ok-row-in-Some.row (here g c) (before g c) (λ i. (before g c).maps) y;
    rest = rest_is (before g c) c.requires.good c.args.x c.args.new c.requires.may c.in_ok-row-in-Some.row (here g c) (g.R.Rows.held c.relink.new.rows) (ends g c);
  };
  world = world_is (before g c) c.requires.good c.args.x c.args.new c.requires.may c.in_ok-row-in-Some.row (here g c) (g.R.Rows.held c.relink.new.rows) (ends g c);
  kept = kept (before g c) c.requires.good c.args.x c.args.new c.requires.may c.in_ok-row-in-Some.row (here g c) (g.R.Rows.held c.relink.new.rows) (ends g c);
  writes =
      let most = writes2 (before g c).maps c.requires.good.sound c.args.x c.args.new c.requires.may c.in_ok-row-in-Some.row (here g c) (before g c) (λ i. (before g c).maps) in
      omega (arith, ap (λ (h : Held). h.writes) (ends g c), most, ap length (removed_is g c), ap length (added_is g c), ap length c.in_ok-relinked.ensures.list);
}
