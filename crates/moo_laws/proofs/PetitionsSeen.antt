-- The petitions that a programmer may see are all that the list of them depends on.
use Rattle.moo_world.{proofs.Lemmas.{◌≡◌, Bool, sym, ap, ◌∙◌, ◌||◌, cond, T, Option, Some, None, is_some, if◌then◌else◌, option_and_then, List, FinMap, entries, entries_sorted, get, get-entries, is_sorted, filter, ObjNo, same_object, PetitionId, PetitionRow, petition_cmp, petition_total, petition_exact, State, is_wizard, arith}, proofs.Shown.EntriesInOrder.{own_entries, filter_alike, all_weaker}}
use Rattle.std.specs.FinMap.{from_sorted, entries-from_sorted, get-from_sorted, same_map}
use Rattle.std.specs.FinMap.Entries.{find, where_key, is_sorted-where_key, find-where_key}
use Rattle.moo_laws.specs.Agreeing.{may_see_petition, seen_petition}

-- the petitions that a programmer may see, in the order of their numbers
abbrev pub seen_list : State → ObjNo → List (PetitionId × PetitionRow)
seen_list s p = filter (λ (id, row). is_wizard s.world p || same_object row.who p) (entries s.petitions)

if_some : {A : Type 0} (b : Bool) (a : A) → is_some (if b then Some a else None) ≡ b
if_some b a = grind arith

kept_or_none : {A : Type 0} (test : A → Bool) (o : Option A) → cond (is_some (option_and_then (λ a. if test a then Some a else None) o)) o None ≡ option_and_then (λ a. if test a then Some a else None) o
kept_or_none test o = grind arith

module _ (s : State) (p : ObjNo) where
  abbrev is_seen : PetitionId → Bool
  is_seen id = is_some (seen_petition s p id)

  abbrev seen : List (PetitionId × PetitionRow)
  seen = where_key petition_cmp is_seen (entries s.petitions)

  abbrev pub seen_map : FinMap petition_cmp PetitionRow
  seen_map = from_sorted seen

  sorted : T (is_sorted petition_cmp seen)
  sorted = is_sorted-where_key petition_cmp is_seen (entries s.petitions) (entries_sorted s.petitions)

  pub seen_get : (id : PetitionId) → get seen_map id ≡ seen_petition s p id
  seen_get id = get-from_sorted petition_cmp seen id sorted
      ∙ find-where_key petition_cmp is_seen id (λ x e. ap is_seen (sym (petition_exact id x e))) (entries s.petitions)
      ∙ ap (λ o. cond (is_seen id) o None) (sym (get-entries s.petitions id))
      ∙ kept_or_none (may_see_petition s p) (get s.petitions id)

  pub seen_entries : entries seen_map ≡ seen_list s p
  seen_entries = entries-from_sorted petition_cmp seen sorted
      ∙ filter_alike (λ e. is_seen e.0) (λ (id, row). is_wizard s.world p || same_object row.who p) (entries s.petitions) (all_weaker _ _ one (entries s.petitions) (own_entries petition_cmp petition_total (entries s.petitions) (entries_sorted s.petitions)))
    where
      one : (e : PetitionId × PetitionRow) → find petition_cmp e.0 (entries s.petitions) ≡ Some e.1 → is_seen e.0 ≡ may_see_petition s p e.1
      one e here = ap (λ o. is_some (option_and_then (λ row. if may_see_petition s p row then Some row else None) o)) (get-entries s.petitions e.0 ∙ here) ∙ if_some (may_see_petition s p e.1) e.1

pub same_list : (s t : State) (p : ObjNo) → ((id : PetitionId) → seen_petition t p id ≡ seen_petition s p id) → seen_list t p ≡ seen_list s p
same_list s t p same = sym (seen_entries t p) ∙ ap entries (same_map petition_total petition_exact (seen_map t p) (seen_map s p) (λ id. seen_get t p id ∙ same id ∙ sym (seen_get s p id))) ∙ seen_entries s p
