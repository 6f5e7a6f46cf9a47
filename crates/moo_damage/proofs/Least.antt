-- From the first bad row of a map to the least key at which a kind is met.
use Rattle.moo_damage.proofs.Words.{◌≡◌, ℕ, ℤ, pos, negsuc, None, Some, Ordering, Less, Equal, sym, ap, ◌∙◌, ◌⊎◌, inl, inr, arith, ◌<ℤ◌, int_cmp_is, nat_cmp_is, nat_cmp, ordering_then, FinMap, get, ints, ObjNo, ObjRow, PetitionId, PetitionRow, PropId, PropRow, SlotRow, VerbId, VerbRow, Maps, Kind, Key, Head, Object, Prop, Verb, Petition, IsLeastBad, IsBelow, AtSlot, InRows, IsLeast, int_cmp, Slot, Has, AtObject, AtProp, AtVerb, AtPetition}

pub number_less : (i j : ℕ) → pos i <ℤ pos j → nat_cmp i j ≡ Less
number_less i j l = sym (nat_cmp_is i j Less (omega (arith, ints, l)))

pub pair_less : (n k : ℤ) (i j : ℕ) → (n <ℤ k) ⊎ ((n ≡ k) × (pos i <ℤ pos j)) → ordering_then (int_cmp n k) (nat_cmp i j) ≡ Less
pair_less n k i j h1 = grind (arith, int_cmp_is, number_less)

-- where the search for a bad row ended, there is none
pub no_bad : {K X : Type 0} {cmp : K → K → Ordering} (rows : FinMap cmp X) (right bad : K → X → Type 0) → ((k : K) (r : X) → right k r → ¬ (bad k r)) → IsLeastBad rows right bad None → (k : K) → ¬ (Has (get rows) bad k)
no_bad rows right bad apart f k h = apart k h.0 (f k h.0 h.1) h.2

module _ (m : Maps) (kind : Kind) where
  pub none_met : ((x : ObjNo) → ¬ (AtObject m kind x)) → ((id : PropId) → ¬ (AtProp m kind id)) → ((key : ObjNo × PropId) → ¬ (AtSlot m kind key)) → ((key : ObjNo × VerbId) → ¬ (AtVerb m kind key)) → ((id : PetitionId) → ¬ (AtPetition m kind id)) → (key : Key) → ¬ (InRows m kind key)
  none_met a b c d e Head h = h
  none_met a b c d e (Object n) h = a (record { 0 = n }) h
  none_met a b c d e (Prop (pos i)) h = b (record { 0 = i }) h
  none_met a b c d e (Prop (negsuc i)) h = h
  none_met a b c d e (Slot n (pos i)) h = c (record { 0 = n }, record { 0 = i }) h
  none_met a b c d e (Slot n (negsuc i)) h = h
  none_met a b c d e (Verb n (pos i)) h = d (record { 0 = n }, record { 0 = i }) h
  none_met a b c d e (Verb n (negsuc i)) h = h
  none_met a b c d e (Petition (pos i)) h = e (record { 0 = i }) h
  none_met a b c d e (Petition (negsuc i)) h = h

  -- a key at which the kind is met, and below which no row of any map has it
  pub least_at : (key : Key) → InRows m kind key → ((x : ObjNo) → IsBelow (Object x.0) key → ¬ (AtObject m kind x)) → ((id : PropId) → IsBelow (Prop (pos id.0)) key → ¬ (AtProp m kind id))
      → ((k : ObjNo × PropId) → IsBelow (Slot k.0.0 (pos k.1.0)) key → ¬ (AtSlot m kind k)) → ((k : ObjNo × VerbId) → IsBelow (Verb k.0.0 (pos k.1.0)) key → ¬ (AtVerb m kind k))
      → ((id : PetitionId) → IsBelow (Petition (pos id.0)) key → ¬ (AtPetition m kind id)) → IsLeast (InRows m kind) (Some key)
  least_at key h a b c d e = grind arith

-- ---- the first bad row of a map, as the least key at which the kind is met

module _ (m : Maps) where
  pub object_first : (kind : Kind) (right bad : ObjNo → ObjRow → Type 0) → ((x : ObjNo) → Has (get m.objects) bad x → AtObject m kind x) → ((x : ObjNo) → AtObject m kind x → Has (get m.objects) bad x)
      → ((x : ObjNo) (row : ObjRow) → right x row → ¬ (bad x row)) → (x : ObjNo) → IsLeastBad m.objects right bad (Some x) → IsLeast (InRows m kind) (Some (Object x.0))
  object_first kind right bad to from apart x f = grind (arith, least_at, int_cmp_is)

  pub prop_first : (kind : Kind) (right bad : PropId → PropRow → Type 0) → ((id : PropId) → Has (get m.props) bad id → AtProp m kind id) → ((id : PropId) → AtProp m kind id → Has (get m.props) bad id)
      → ((id : PropId) (row : PropRow) → right id row → ¬ (bad id row)) → ((y : ObjNo) → ¬ (AtObject m kind y)) → (id : PropId) → IsLeastBad m.props right bad (Some id) → IsLeast (InRows m kind) (Some (Prop (pos id.0)))
  prop_first kind right bad to from apart a id f = grind (arith, least_at, number_less)

  pub slot_first : (kind : Kind) (right bad : ObjNo × PropId → SlotRow → Type 0) → ((key : ObjNo × PropId) → Has (get m.slots) bad key → AtSlot m kind key) → ((key : ObjNo × PropId) → AtSlot m kind key → Has (get m.slots) bad key)
      → ((key : ObjNo × PropId) (row : SlotRow) → right key row → ¬ (bad key row)) → ((y : ObjNo) → ¬ (AtObject m kind y)) → ((id : PropId) → ¬ (AtProp m kind id))
      → (key : ObjNo × PropId) → IsLeastBad m.slots right bad (Some key) → IsLeast (InRows m kind) (Some (Slot key.0.0 (pos key.1.0)))
  slot_first kind right bad to from apart a b key f = grind (arith, least_at, pair_less)

  pub verb_first : (kind : Kind) (right bad : ObjNo × VerbId → VerbRow → Type 0) → ((key : ObjNo × VerbId) → Has (get m.verbs) bad key → AtVerb m kind key) → ((key : ObjNo × VerbId) → AtVerb m kind key → Has (get m.verbs) bad key)
      → ((key : ObjNo × VerbId) (row : VerbRow) → right key row → ¬ (bad key row)) → ((y : ObjNo) → ¬ (AtObject m kind y)) → ((id : PropId) → ¬ (AtProp m kind id)) → ((key : ObjNo × PropId) → ¬ (AtSlot m kind key))
      → (key : ObjNo × VerbId) → IsLeastBad m.verbs right bad (Some key) → IsLeast (InRows m kind) (Some (Verb key.0.0 (pos key.1.0)))
  verb_first kind right bad to from apart a b c key f = grind (arith, least_at, pair_less)

  pub petition_first : (kind : Kind) (right bad : PetitionId → PetitionRow → Type 0) → ((id : PetitionId) → Has (get m.petitions) bad id → AtPetition m kind id) → ((id : PetitionId) → AtPetition m kind id → Has (get m.petitions) bad id)
      → ((id : PetitionId) (row : PetitionRow) → right id row → ¬ (bad id row)) → ((y : ObjNo) → ¬ (AtObject m kind y)) → ((id : PropId) → ¬ (AtProp m kind id)) → ((key : ObjNo × PropId) → ¬ (AtSlot m kind key)) → ((key : ObjNo × VerbId) → ¬ (AtVerb m kind key))
      → (id : PetitionId) → IsLeastBad m.petitions right bad (Some id) → IsLeast (InRows m kind) (Some (Petition (pos id.0)))
  petition_first kind right bad to from apart a b c d id f = grind (arith, least_at, number_less)
