-- Slots that are just those that are owed, with names apart, hold locally.
use Rattle.moo_damage.{proofs.Words.{◌≡◌, ◌<◌, ◌≤◌, true, false, ◌||◌, ◌&&◌, Some, ◌∷◌, refl, sym, ap, ◌∙◌, subst, ◌⊎◌, inl, inr, arith, nat_lt, not, is_some, unwrap_or, option_map, get, entries, get-entries, both_ways, or_cases, or_left, or_right, cases_lt, nat_tests, same_Some, ObjNo, ObjRow, PropId, PropRow, prop_exact, Maps, prop_cmp, prop_total, same_object, folded, is_among, same_object-Decides, same_text-Decides, look_ups, world_of, World, IsTree, chain, some_of, defines, any_held, lacks_definer, share_name, is_double, has_slot, comes_down, AreLocal, SlotsHold}, proofs.Apart.{both_true}, proofs.Chained.{chain_object, not_false}}
use Rattle.moo_tree.proofs.Searching.{a_row}
use Rattle.moo_props.proofs.Cases.{passing}
use Rattle.moo_world.proofs.Shown.Seen.{chain_of_row}

module _ (m : Maps) (t : IsTree (world_of m)) (ids : (id : PropId) (p : PropRow) → get m.props id ≡ Some p → 0 < id.0) (definers : (id : PropId) (p : PropRow) → get m.props id ≡ Some p → lacks_definer m p ≡ false) (h : SlotsHold m) where
  abbrev w : World
  w = world_of m

  -- what is owed is there
  owed_there : (x : ObjNo) (id : PropId) (p : PropRow) → get m.props id ≡ Some p → is_among p.definer (chain w x) ≡ true → has_slot m x id ≡ true
  owed_there x id p e a =
      let row = a_row m x (chain_object w x p.definer a) in
      let owed : unwrap_or (option_map (λ (p : PropRow). is_among p.definer (chain w x)) (get m.props id)) false ≡ true = ap (λ o. unwrap_or (option_map (λ (p : PropRow). is_among p.definer (chain w x)) o) false) e ∙ a in
      not_false (has_slot m x id) (ap (λ b. b && not (has_slot m x id)) (sym owed) ∙ h.there x row.0 row.1 id p e)

  -- what is there is owed
  there_owed : (x : ObjNo) (id : PropId) → has_slot m x id ≡ true → (p : PropRow) × (get m.props id ≡ Some p) × (is_among p.definer (chain w x) ≡ true)
  there_owed x id e =
      let s = some_of (get m.slots (x, id)) e in
      passing (λ (p : PropRow). is_among p.definer (chain w x)) (get m.props id) (not_false _ (h.owed (x, id) s.0 s.1))

  -- one step up
  step : (x : ObjNo) (row : ObjRow) → get m.objects x ≡ Some row → chain w x ≡ x ∷ chain w row.parent
  step x row e = chain_of_row (look_ups m) t x row (sym e)

  own_chain : (x : ObjNo) (row : ObjRow) → get m.objects x ≡ Some row → is_among x (chain w x) ≡ true
  own_chain x row e = ap (is_among x) (step x row e) ∙ or_left (same_object x x) (is_among x (chain w row.parent)) ((same_object-Decides x x).1 refl)

  from_slot : (x : ObjNo) (id : PropId) → has_slot m x id ≡ true → comes_down m (x, id) ≡ true
  from_slot x id e =
      let k = there_owed x id e in
      let r = a_row m x (chain_object w x k.0.definer k.2) in
      ap (λ o. unwrap_or (option_map (λ (row : ObjRow). defines m x id || has_slot m row.parent id) o) false) r.1
      ∙ by k.0 k.1 r.0 (or_cases (same_object k.0.definer x) (is_among k.0.definer (chain w r.0.parent)) (sym (ap (is_among k.0.definer) (step x r.0 r.1)) ∙ k.2))
    where
      by : (p : PropRow) → get m.props id ≡ Some p → (row : ObjRow) → (same_object p.definer x ≡ true) ⊎ (is_among p.definer (chain w row.parent) ≡ true) → (defines m x id || has_slot m row.parent id) ≡ true
      by p f row (inl s) = or_left (defines m x id) (has_slot m row.parent id) (ap (λ o. unwrap_or (option_map (λ (p : PropRow). same_object p.definer x) o) false) f ∙ s)
      by p f row (inr a) = or_right (defines m x id) (has_slot m row.parent id) (owed_there row.parent id p f a)

  down_slot : (x : ObjNo) (row : ObjRow) → get m.objects x ≡ Some row → (id : PropId) → has_slot m row.parent id ≡ true → has_slot m x id ≡ true
  down_slot x row e id u =
      let k = there_owed row.parent id u in
      owed_there x id k.0 k.1 (ap (is_among k.0.definer) (step x row e) ∙ or_right (same_object k.0.definer x) (is_among k.0.definer (chain w row.parent)) k.2)

  double_at : (i j : PropId) (p q : PropRow) → get m.props i ≡ Some p → get m.props j ≡ Some q → i.0 < j.0 → share_name w q p ≡ true → ⊥
  double_at i j p q f g l s =
      let less : nat_lt i.0 j.0 ≡ true = grind (arith, nat_tests) in
      both_ways (is_double m j q) (h.names j q g)
      (any_held prop_cmp prop_total prop_exact (λ e. nat_lt e.0.0 j.0 && share_name w q e.1) i p (entries m.props) (sym (get-entries m.props i) ∙ f) (both_true (nat_lt i.0 j.0) (share_name w q p) less s))

  apart : (i j : PropId) (p q : PropRow) → get m.props i ≡ Some p → get m.props j ≡ Some q → has_slot m p.definer j ≡ true → folded p.name ≡ folded q.name → i ≡ j
  apart i j p q f g u n =
      let k = there_owed p.definer j u in
      let a : is_among q.definer (chain w p.definer) ≡ true = subst (λ (z : PropRow). is_among z.definer (chain w p.definer) ≡ true) (same_Some k.0 q (sym k.1 ∙ g)) k.2 in
      let number : i.0 ≡ j.0 = by a (cases_lt i.0 j.0) (cases_lt j.0 i.0) in
      λ z. record { 0 = number z }
    where
      by : is_among q.definer (chain w p.definer) ≡ true → (i.0 < j.0) ⊎ (j.0 ≤ i.0) → (j.0 < i.0) ⊎ (i.0 ≤ j.0) → i.0 ≡ j.0
      by a (inl l) r = absurd (double_at i j p q f g l (both_true _ _ ((same_text-Decides (folded q.name) (folded p.name)).1 (sym n)) (or_right (is_among p.definer (chain w q.definer)) (is_among q.definer (chain w p.definer)) a)))
      by a (inr l) (inl r) = absurd (double_at j i q p g f r (both_true _ _ ((same_text-Decides (folded p.name) (folded q.name)).1 n) (or_left (is_among q.definer (chain w p.definer)) (is_among p.definer (chain w q.definer)) a)))
      by a (inr l) (inr r) = omega arith

  pub are_local : AreLocal m
  are_local = record {
    numbered = ids;
    own = λ id p e.
        let r = a_row m p.definer (not_false _ (definers id p e)) in
        owed_there p.definer id p e (own_chain p.definer r.0 r.1);
    from = λ key s e. from_slot key.0 key.1 (ap is_some e);
    down = λ x row e id low u. down_slot x row e id u;
    apart = apart;
  }
