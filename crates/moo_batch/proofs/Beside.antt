-- Rows with other petitions and another counter of theirs.
use Rattle.std.{proofs.Common.{◌≡◌, ℕ, ◌+◌, ◌<◌, true, refl, sym, ap, ◌∙◌, subst}, specs.FinMap.{FinMap, insert, remove}}
use Rattle.moo_value.{specs.declared.value.ObjNo.{ObjNo}, specs.Values.{Values}}
use Rattle.moo_rows.{specs.declared.row.Head.{Head}, specs.declared.row.PetitionId.{PetitionId}, specs.declared.row.PetitionRow.{PetitionRow}, specs.Maps.{Maps, Held, petition_cmp, with_petition, without_petition}}
use Rattle.moo_world.{specs.Petitions.{PetitionsStand, petition_fits}, specs.Requests.{state_of, asked, petition_id, without}, specs.Rows.{IsGood, world_of, world_shown}, specs.World.{IsWellFormed}, specs.Numbers.{KeepsNumbers}, proofs.Form.Petitions.{one_more_stands, still_stand}, proofs.Shown.NumbersKept.{numbers_same}}
use Rattle.moo_batch.specs.Outcomes.{state_in, KeepsGoodRows}

abbrev pub beside_by : FinMap petition_cmp PetitionRow → ℕ → Maps → Maps
beside_by petitions next t = record t { head = record t.head { next_petition = next }; petitions = petitions }

module _ (petitions : FinMap petition_cmp PetitionRow) (next : ℕ) (t : Maps) where
  same_world : world_of (beside_by petitions next t) ≡ world_of t
  unfolding world_shown
  same_world = refl

  pub state-beside : state_of (beside_by petitions next t) ≡ record (state_of t) { petitions = petitions; next_petition = next }
  state-beside = ap (λ w. record (state_of t) { world = w; petitions = petitions; next_petition = next }) same_world

  pub good-beside : IsGood t → PetitionsStand petitions next → IsGood (beside_by petitions next t)
  good-beside good stand = record {
    sound = record { props_below = good.sound.props_below; definers = good.sound.definers; slots = good.sound.slots; one_name = good.sound.one_name; verbs = good.sound.verbs };
    formed = subst IsWellFormed (sym same_world) good.formed;
    petitions = stand;
  }

  -- what is kept where these alone change
  pub kept-beside : (old new : Held) → old.maps ≡ t → new.maps ≡ beside_by petitions next t → new.base ≡ old.base → IsGood t → PetitionsStand petitions next → KeepsGoodRows KeepsNumbers old new
  kept-beside old new was is base good stand = record {
    good = subst IsGood (sym is) (good-beside good stand);
    seq = ap (λ (m : Maps). m.head.seq) is ∙ sym (ap (λ (m : Maps). m.head.seq) was);
    base = base;
    numbers = numbers_same old.maps new.maps (field (λ m. m.props) refl) (field (λ m. m.verbs) refl) (field (λ m. m.head.next_prop) refl) (field (λ m. m.head.next_verb) refl);
  }
    where
      field : {A : Type 0} (f : Maps → A) → f (beside_by petitions next t) ≡ f t → f new.maps ≡ f old.maps
      field f same = ap f is ∙ same ∙ sym (ap f was)

-- ---- a petition more, and one less

abbrev kept_stand : Maps → PetitionId → FinMap petition_cmp PetitionRow
kept_stand t gone = remove t.petitions gone

pub removed-keeps : (old new : Held) (gone : PetitionId) → new ≡ without_petition old gone → IsGood old.maps → KeepsGoodRows KeepsNumbers old new
removed-keeps old new gone is good =
    kept-beside (kept_stand old.maps gone) old.maps.head.next_petition old.maps old new refl (ap (λ (h : Held). h.maps) is) (ap (λ (h : Held). h.base) is) good
    (still_stand old.maps.petitions old.maps.head.next_petition gone good.petitions)

pub removed-state : (old new : Held) (gone : PetitionId) → new ≡ without_petition old gone → state_in new ≡ without gone (state_in old)
removed-state old new gone is = ap state_in is ∙ state-beside (kept_stand old.maps gone) old.maps.head.next_petition old.maps

module _ (old put new : Held) (head : Head) (p : ObjNo) (calls : Values) (head_is : head ≡ old.maps.head) (is_put : put ≡ with_petition old (petition_id head.next_petition) (record { who = p; calls = calls }))
    (counted : new ≡ record put { maps = record (put.maps) { head = record head { next_petition = head.next_petition + 1 } } }) where
  abbrev with_one : FinMap petition_cmp PetitionRow
  with_one = insert old.maps.petitions (petition_id old.maps.head.next_petition) (record { who = p; calls = calls })

  abbrev under : Head → Held → Maps
  under head held = record (held.maps) { head = record head { next_petition = head.next_petition + 1 } }

  maps_are : new.maps ≡ beside_by with_one (old.maps.head.next_petition + 1) old.maps
  maps_are =
      ap (λ (h : Held). h.maps) counted ∙ ap (under head) is_put
      ∙ ap (λ (h : Head). under h (with_petition old (petition_id h.next_petition) (record { who = p; calls = calls }))) head_is

  pub asked-state : state_in new ≡ asked (state_in old) p calls
  asked-state = ap state_of maps_are ∙ state-beside with_one (old.maps.head.next_petition + 1) old.maps

  pub asked-keeps : IsGood old.maps → petition_fits (record { who = p; calls = calls }) ≡ true → old.maps.head.next_petition < 4294967295 → KeepsGoodRows KeepsNumbers old new
  asked-keeps good fit less =
      kept-beside with_one (old.maps.head.next_petition + 1) old.maps old new refl maps_are (ap (λ (h : Held). h.base) counted ∙ ap (λ (h : Held). h.base) is_put) good
      (one_more_stands old.maps.petitions old.maps.head.next_petition (record { who = p; calls = calls }) good.petitions fit less)
