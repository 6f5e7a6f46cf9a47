-- A value, and petitions, that a programmer may not see may be any.
use Rattle.moo_world.proofs.Lemmas.{arith, ◌≡◌, false, ◌||◌, refl, sym, ap, ◌∙◌, ◌⊎◌, inl, inr, Option, Some, None, if◌then◌else◌, option_and_then, get, ObjNo, Value, Name, PetitionId, PetitionRow, same_object, same_object-Decides, State, IsWellFormed, is_wizard}
use Rattle.std.specs.Prelude.{◌↔◌}
use Rattle.moo_laws.specs.Reading.{LookAlike, IsHidden}
use Rattle.moo_laws.specs.Agreeing.{AgreeFor, SameOwnPetitions, seen_petition, with_value}
use Rattle.moo_laws.proofs.Asking.{passes}
use Rattle.moo_laws.proofs.HiddenValues.{hidden_look_alike}

pub other_value : (p x : ObjNo) (n : Name) (value : Value) (s : State) → IsWellFormed s.world → IsHidden s.world p x n → AgreeFor p s (with_value s x n value)
other_value p x n value s wf hidden =
    let alike : LookAlike p s.world (with_value s x n value).world = hidden_look_alike s.world wf p x n value hidden in
    record {
      worlds = alike;
      petitions = λ id i. option_and_then (λ row. if passes p s.world (with_value s x n value).world alike (λ r. r.wizard) i p || same_object row.who p then Some row else None) (get s.petitions id);
      accepted = refl;
    }

-- ---- petitions of others

module _ (p : ObjNo) where
  abbrev pub own : Option PetitionRow → Option PetitionRow
  own o = option_and_then (λ row. if same_object row.who p then Some row else None) o

  own_or_none : (o : Option PetitionRow) → ((row : PetitionRow) × ((row.who ≡ p) × (o ≡ Some row))) ⊎ (own o ≡ None)
  own_or_none o = grind (arith, same_object-Decides)

  same_own : (o q : Option PetitionRow) → ((row : PetitionRow) → row.who ≡ p → q ≡ Some row ↔ o ≡ Some row) → own q ≡ own o
  same_own o q h = by (own_or_none o) (own_or_none q)
    where
      by : ((row : PetitionRow) × ((row.who ≡ p) × (o ≡ Some row))) ⊎ (own o ≡ None) → ((row : PetitionRow) × ((row.who ≡ p) × (q ≡ Some row))) ⊎ (own q ≡ None) → own q ≡ own o
      by (inl (row, (theirs, e))) right = ap own ((h row theirs).1 e ∙ sym e)
      by (inr none) (inl (row, (theirs, e))) = ap own (e ∙ sym ((h row theirs).0 e))
      by (inr none) (inr neither) = neither ∙ sym none

  -- who isn't a wizard sees their own
  pub seen_own : (u : State) (id : PetitionId) → is_wizard u.world p ≡ false → seen_petition u p id ≡ own (get u.petitions id)
  seen_own u id e = ap (λ b. option_and_then (λ row. if b || same_object row.who p then Some row else None) (get u.petitions id)) e

  pub own_agree : (s t : State) → is_wizard s.world p ≡ false → LookAlike p s.world t.world → t.seq ≡ s.seq → SameOwnPetitions p s t → AgreeFor p s t
  own_agree s t plain alike seq same = record {
    worlds = alike;
    petitions = λ id. seen_own t id (ap (λ f. f p) (passes p s.world t.world alike (λ r. r.wizard)) ∙ plain) ∙ same_own (get s.petitions id) (get t.petitions id) (same id) ∙ sym (seen_own s id plain);
    accepted = seq;
  }
