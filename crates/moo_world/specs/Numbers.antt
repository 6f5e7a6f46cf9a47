-- What a call does to the numbers of properties and verbs, which no world shows: what stays has the number that it had, and what
-- is new the next one. With the world that the call leaves this fixes the rows, but for which of two verbs alike was deleted.
use Rattle.std.specs.{Prelude.{◌≡◌, ◌≤◌, ◌<◌, ℕ, true, Option, Some, None, is_some, if◌then◌else◌}, Option.{option_and_then}}
use Rattle.std.specs.FinMap.{FinMap, get, insert, remove}
use Rattle.moo_value.specs.declared.value.ObjNo.{ObjNo}
use Rattle.moo_rows.specs.{declared.row.PropId.{PropId}, declared.row.PropRow.{PropRow}, declared.row.VerbId.{VerbId}}
use Rattle.moo_rows.specs.{declared.row.VerbRow.{VerbRow}, Maps.{Maps, prop_cmp, verb_cmp}}
use Rattle.moo_world.specs.{Objects.{Name, same_object}, Rows.{prop_id, verb_id}}

-- the row of a property, unless the object defines it
abbrev pub not_of : ObjNo → Option PropRow → Option PropRow
not_of object row = option_and_then (λ (property : PropRow). if same_object property.definer object then None else Some property) row

-- the properties stay, or there is one more, of the next number; or one has another name, one is gone, or all of one object are
pub data KeepsProps (next : ℕ) (old new : FinMap prop_cmp PropRow) : Type 0 where
  props_stay : new ≡ old → KeepsProps next old new
  prop_added : (row : PropRow) → new ≡ insert old (prop_id next) row → KeepsProps next old new
  prop_renamed : (id : PropId) (row : PropRow) (name : Name) → get old id ≡ Some row → new ≡ insert old id (record row { name = name }) →
      KeepsProps next old new
  prop_removed : (id : PropId) → new ≡ remove old id → KeepsProps next old new
  props_dropped : (object : ObjNo) → ((id : PropId) → get new id ≡ not_of object (get old id)) → KeepsProps next old new

-- the verbs stay, or there is one more, of the next number; or one is changed, one is gone, or all of one object are
pub data KeepsVerbs (next : ℕ) (old new : FinMap verb_cmp VerbRow) : Type 0 where
  verbs_stay : new ≡ old → KeepsVerbs next old new
  verb_added : (object : ObjNo) (row : VerbRow) → new ≡ insert old (object, verb_id next) row → KeepsVerbs next old new
  verb_changed : (key : ObjNo × VerbId) (row : VerbRow) → is_some (get old key) ≡ true → new ≡ insert old key row → KeepsVerbs next old new
  verb_removed : (key : ObjNo × VerbId) → new ≡ remove old key → KeepsVerbs next old new
  verbs_dropped : (object : ObjNo) → ((key : ObjNo × VerbId) → get new key ≡ (if same_object object key.0 then None else get old key)) →
      KeepsVerbs next old new

-- properties and verbs keep their numbers as above, and no counter falls
pub record KeepsNumbers (old new : Maps) : Type 0 where
  pub props : KeepsProps old.head.next_prop old.props new.props
  pub verbs : KeepsVerbs old.head.next_verb old.verbs new.verbs
  pub next_prop : old.head.next_prop ≤ new.head.next_prop
  pub next_verb : old.head.next_verb ≤ new.head.next_verb

-- nothing changed but slots, so no property, no verb and no counter
abbrev pub IsSameButSlots : Maps → Maps → Type 0
IsSameButSlots old new = new ≡ record old { slots = new.slots }

-- over any time, a number once given is not given again: under a number that was given there is a property of its definer,
-- or a verb of its object, that was there before
pub record NumbersStay (old new : Maps) : Type 0 where
  pub props : (id : PropId) (row : PropRow) → id.0 < old.head.next_prop → get new.props id ≡ Some row → (was : PropRow)
      × (get old.props id ≡ Some was) × (was.definer ≡ row.definer)
  pub verbs : (object : ObjNo) (id : VerbId) → id.0 < old.head.next_verb → is_some (get new.verbs (object, id)) ≡ true →
      is_some (get old.verbs (object, id)) ≡ true
  pub next_prop : old.head.next_prop ≤ new.head.next_prop
  pub next_verb : old.head.next_verb ≤ new.head.next_verb
