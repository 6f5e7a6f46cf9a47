-- What a property's owner, rights and name are changed by may be done in turn.
use Rattle.std.{proofs.Common.{◌≡◌, Bool, true, false, not, ◌&&◌, Option, None, Some, refl, sym, ap, ◌∙◌}, specs.Prelude.{is_some}, specs.FinMap.{get}, proofs.lemmas.Bool.{and_parts, false≢true}}
use Rattle.moo_value.specs.declared.value.ObjNo.{ObjNo}
use Rattle.moo_rows.{specs.declared.row.PropId.{PropId}, specs.Maps.{Maps}}
use Rattle.moo_world.{specs.Changes.{clashes, with_slot_of}, specs.Objects.{Name, folded}, specs.PropertyCalls.{defines_name, may_rename}, specs.Rows.{IsGood, world_of}, specs.World.{World, Slot, slot_of, is_property_name}, proofs.Form.Values.{clashes_same}, proofs.Form.Slots.{same_links}}
use Rattle.moo_props.{specs.Names.{spelling_of, defines as defines_property}, proofs.FoundSlots.{definer_found}, proofs.Quotas.{folded_spelling}}
use Rattle.moo_calls_properties.proofs.OwnProperty.{owns_slot, owns_by_slot}

-- what is asked of a new name
pub may_parts : (w : World) (x : ObjNo) (n new : Name) (given : Option Name) → given ≡ Some new → may_rename w x n given ≡ true → (defines_name w x n ≡ true) × (is_property_name new ≡ true) × (clashes w x new ≡ false)
may_parts w x n new given is e =
    let own = and_parts (defines_name w x n) (is_property_name new && not (clashes w x new)) (ap (may_rename w x n) (sym is) ∙ e) in
    let name = and_parts (is_property_name new) (not (clashes w x new)) own.1 in
    (own.0, name.0, negated (clashes w x new) name.1)
  where
    negated : (b : Bool) → not b ≡ true → b ≡ false
    negated true g = absurd (false≢true g)
    negated false g = refl

-- a property that x has, of a name that x defines, is x's own
pub own_of_name : (t : Maps) → IsGood t → (x : ObjNo) (id : PropId) → is_some (get t.slots (x, id)) ≡ true → defines_name (world_of t) x (spelling_of t id) ≡ true → defines_property t x id ≡ true
own_of_name t good x id held own = by (slot_of (world_of t) x (folded (spelling_of t id))) refl
  where
    owned : owns_slot x (slot_of (world_of t) x (folded (spelling_of t id))) ≡ true
    owned = owns_by_slot (world_of t) good.formed x (spelling_of t id) ∙ own

    by : (o : Option Slot) → slot_of (world_of t) x (folded (spelling_of t id)) ≡ o → defines_property t x id ≡ true
    by None e = absurd (false≢true (sym (ap (owns_slot x) e) ∙ owned))
    by (Some s) e = definer_found t good.sound x id (folded (spelling_of t id)) s held (sym (folded_spelling t id)) (sym e) ∙ sym (ap (owns_slot x) e) ∙ owned

-- names clash after a change of a slot as they did before
pub clashes_still : (w : World) (x : ObjNo) (n new : Name) (change : Slot → Slot) → clashes (with_slot_of w x n change) x new ≡ clashes w x new
clashes_still w x n new change = clashes_same (with_slot_of w x n change) w (same_links w x n change) x new
