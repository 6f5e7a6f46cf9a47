-- Numbers that stay, over one call and over many.
use Rattle.moo_world.{proofs.Lemmas.{◌≡◌, ℕ, ◌+◌, ◌<◌, ◌≤◌, ◌⊎◌, inl, inr, Bool, true, false, Some, List, [], ◌∷◌, refl, sym, ap, ◌∙◌, subst, arith, is_some, FinMap, get, insert, remove, same_Some, ObjNo, Value, spread, PropId, PropRow, VerbRow, prop_exact, verb_exact, Maps, prop_cmp, verb_cmp, prop_total, verb_total, Call, is_grant, PetitionsStay, state_of, prop_id, verb_id, world_of, put_or_old, none_or_old}, specs.Between.{CallsLead, HeldCallsLead, CallKeepsNumbers, BatchesKeepNumbers}, specs.Numbers.{KeepsProps, props_stay, prop_added, prop_renamed, prop_removed, props_dropped, KeepsVerbs, verbs_stay, verb_added, verb_changed, verb_removed, verbs_dropped, KeepsNumbers, IsSameButSlots, NumbersStay}, proofs.Batches.PetitionNumbers.{petitions_same, petitions_joined, petitions_kept}}
use Rattle.moo_rows.specs.declared.row.VerbId.{VerbId}

-- ---- one call

pub as_high : (old new : ℕ) → new ≡ old → old ≤ new
as_high old new e = omega (arith, e)

pub one_higher : (old new : ℕ) → new ≡ old + 1 → old ≤ new
one_higher old new e = omega (arith, e)

pub numbers_same : (old new : Maps) → new.props ≡ old.props → new.verbs ≡ old.verbs → new.head.next_prop ≡ old.head.next_prop → new.head.next_verb ≡ old.head.next_verb → KeepsNumbers old new
numbers_same old new props verbs p v = record { props = props_stay props; verbs = verbs_stay verbs; next_prop = omega (arith, p); next_verb = omega (arith, v) }

-- where before or after it slots alone change, the numbers are kept as well
pub then_slots : (old mid new : Maps) → KeepsNumbers old mid → IsSameButSlots mid new → KeepsNumbers old new
then_slots old mid new k e = subst (KeepsNumbers old) (sym e) (record { props = k.props; verbs = k.verbs; next_prop = k.next_prop; next_verb = k.next_verb })

pub slots_then : (old mid new : Maps) → IsSameButSlots old mid → KeepsNumbers mid new → KeepsNumbers old new
slots_then old mid new e k =
    let l = subst (λ m. KeepsNumbers m new) e k in
    record { props = l.props; verbs = l.verbs; next_prop = l.next_prop; next_verb = l.next_verb }

pub slots_only : (old new : Maps) → IsSameButSlots old new → KeepsNumbers old new
slots_only old new e = numbers_same old new (ap (λ (m : Maps). m.props) e) (ap (λ (m : Maps). m.verbs) e) (ap (λ (m : Maps). m.head.next_prop) e) (ap (λ (m : Maps). m.head.next_verb) e)

-- ---- many

-- the definer's row stood there
abbrev Stood : FinMap prop_cmp PropRow → PropId → PropRow → Type 0
Stood old id row = (was : PropRow) × (get old id ≡ Some was) × (was.definer ≡ row.definer)

prop_stood : (next : ℕ) (old new : FinMap prop_cmp PropRow) → KeepsProps next old new → (id : PropId) (row : PropRow) → id.0 < next → get new id ≡ Some row → Stood old id row
prop_stood next old new (props_stay e) id row less h = grind (arith, ap (λ m. get m id) e)
prop_stood next old new (prop_added more e) id row less h = grind (arith, ap (λ m. get m id) e, put_or_old prop_total prop_exact old (prop_id next) id more)
prop_stood next old new (prop_renamed key was name here e) id row less h = by (put_or_old prop_total prop_exact old key id (record was { name = name }))
  where
    by : ((id ≡ key) × (get (insert old key (record was { name = name })) id ≡ Some (record was { name = name }))) ⊎ (get (insert old key (record was { name = name })) id ≡ get old id) → Stood old id row
    by (inl s) = (was, ap (get old) s.0 ∙ here, ap (λ (r : PropRow). r.definer) (same_Some _ _ (sym s.1 ∙ sym (ap (λ m. get m id) e) ∙ h)))
    by (inr s) = (row, sym s ∙ sym (ap (λ m. get m id) e) ∙ h, refl)
prop_stood next old new (prop_removed key e) id row less h = grind (arith, ap (λ m. get m id) e, none_or_old prop_total prop_exact old key id)
prop_stood next old new (props_dropped x left) id row less h = grind (arith, left id)

verb_stood : (next : ℕ) (old new : FinMap verb_cmp VerbRow) → KeepsVerbs next old new → (x : ObjNo) (id : VerbId) → id.0 < next → is_some (get new (x, id)) ≡ true → is_some (get old (x, id)) ≡ true
verb_stood next old new (verbs_stay e) x id less h = grind (arith, ap (λ m. get m (x, id)) e)
verb_stood next old new (verb_added y row e) x id less h = grind (arith, ap (λ m. get m (x, id)) e, put_or_old verb_total verb_exact old (y, verb_id next) (x, id) row)
verb_stood next old new (verb_changed key row here e) x id less h = grind (arith, ap (λ m. get m (x, id)) e, put_or_old verb_total verb_exact old key (x, id) row)
verb_stood next old new (verb_removed key e) x id less h = grind (arith, ap (λ m. get m (x, id)) e, none_or_old verb_total verb_exact old key (x, id))
verb_stood next old new (verbs_dropped y left) x id less h = grind (arith, left (x, id))

pub numbers_stay : (old new : Maps) → KeepsNumbers old new → NumbersStay old new
numbers_stay old new k = record {
  props = λ id row less h. prop_stood old.head.next_prop old.props new.props k.props id row less h;
  verbs = λ x id less h. verb_stood old.head.next_verb old.verbs new.verbs k.verbs x id less h;
  next_prop = k.next_prop;
  next_verb = k.next_verb;
}

pub stay_joined : (a b c : Maps) → NumbersStay a b → NumbersStay b c → NumbersStay a c
stay_joined a b c s t = grind arith

pub stay_itself : (m : Maps) → NumbersStay m m
stay_itself m = numbers_stay m m (numbers_same m m refl refl refl refl)

held_calls_stay : (p : ObjNo) (helds : List Value) (old new : Maps) → HeldCallsLead p helds old new → NumbersStay old new
held_calls_stay p [] old new e = subst (NumbersStay old) (sym e) (stay_itself old)
held_calls_stay p (held ∷ helds) old new l = stay_joined old l.1 new (numbers_stay old l.1 l.4) (held_calls_stay p helds l.1 new l.5)

call_stays : (grants : Bool) (p : ObjNo) (args : List Value) (old new : Maps) → CallKeepsNumbers grants p args old new → NumbersStay old new
call_stays true p args old new k =
    let gone = record old { petitions = remove old.petitions k.1.0 } in
    stay_joined old gone new (numbers_stay old gone (numbers_same old gone refl refl refl refl)) (held_calls_stay p (spread k.1.1.calls) gone new k.4)
call_stays false p args old new k = numbers_stay old new k

pub calls_stay : (p : ObjNo) (calls : List Call) (old new : Maps) → CallsLead p calls old new → NumbersStay old new
calls_stay p [] old new e = subst (NumbersStay old) (sym e) (stay_itself old)
calls_stay p (call ∷ calls) old new l = stay_joined old l.1 new (call_stays (is_grant call.name) p call.args old l.1 l.4) (calls_stay p calls l.1 new l.5)

pub petitions_stay : (p : ObjNo) (calls : List Call) (old new : Maps) → CallsLead p calls old new → PetitionsStay (state_of old) (state_of new)
petitions_stay p [] old new e = subst (λ m. PetitionsStay (state_of old) (state_of m)) (sym e) (petitions_same (state_of old) (world_of old))
petitions_stay p (call ∷ calls) old new l = grind (arith, petitions_stay p calls l.1 new l.5, petitions_joined, petitions_kept)

pub batches_keep_numbers : BatchesKeepNumbers
batches_keep_numbers batch old new l = grind (arith, calls_stay, petitions_stay)
