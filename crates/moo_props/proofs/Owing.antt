-- What is owed along a list of definers, by the rows of properties.
use Rattle.moo_props.{proofs.Words.{arith, ◌≡◌, ℕ, Bool, true, false, Option, None, Some, List, [], ◌∷◌, refl, sym, ap, ◌∙◌, ◌&&◌, is_some, unwrap_or, if◌then◌else◌, option_map, option_and_then, filter_map, list_any, AllByRecursion, get, entries, get-entries, false≢true, and_parts, or_cases, ObjNo, ObjRow, PropId, PropRow, Maps, prop_cmp, prop_exact, prop_total, Name, Property, same_object, same_property, is_among, same_object-Decides, World, WorldObject, Slot, IsWellFormed, is_object, chain, property_names_of, defined_by, defined_by_any, property_named, slot_of, LookUps, IsSound, look_ups, world_of, numbers_below, name_on, prop_id, decided_alike, any-append, no_slot, names_shown, is_object_seen, owed_listed, Chain-chain, chain_of_none, any_map, IsGood, SlotRow, name_of, slot_seen, defines, definer_among, named_owed, cond_some}, proofs.Cases.{none_of, passing, some_map}, proofs.Gains.{defines_pair}, proofs.Walked.{all_held, any_held, slot_here}}
use Rattle.moo_world.proofs.Inheritance.Keeping.{same_property-is}

-- ---- lists

-- one that passes, of those of which all is said
one_passing : {A : Type 0} (P : A → Type 0) (test : A → Bool) (l : List A) → AllByRecursion P l → list_any test l ≡ true → (a : A) × P a × (test a ≡ true)
one_passing {A = A} P test [] h e = absurd (false≢true e)
one_passing {A = A} P test (x ∷ l) h e = grind (arith, one_passing P test l)

any_pair : (test : Property → Bool) (l : List Property) (p : Property) → list_any (same_property p) l ≡ true → test p ≡ true → list_any test l ≡ true
any_pair test [] p h k = absurd (false≢true h)
any_pair test (y ∷ l) p h k = grind (arith, same_property-is p y, any_pair test l p)

any_number : {X : Type 0} (h : ℕ → Option X) (test : X → Bool) (l : List ℕ) → list_any test (filter_map h l) ≡ true → (k : ℕ) × (v : X) × (h k ≡ Some v) × (test v ≡ true)
any_number h test [] e = absurd (false≢true e)
any_number {X} h test (k ∷ l) e = grind (arith, or_cases, any_number h test l)

module _ (t : Maps) (sound : IsSound t) where
  abbrev m : LookUps
  m = look_ups t

  abbrev w : World
  w = world_of t

  pub entries_held : AllByRecursion (λ e. get t.props e.0 ≡ Some e.1) (entries t.props)
  entries_held = all_held prop_total prop_exact t.props

  -- a name that d defines is that of a property's row
  named_row : (d : ObjNo) (test : Property → Bool) → list_any test (defined_by w d) ≡ true → (id : ℕ) × (p : PropRow) × (m.prop id ≡ Some p) × (p.definer ≡ d) × (test (p.definer, p.name) ≡ true)
  named_row d test h = by (m.object d) refl
    where
      here : list_any (λ n. test (d, n)) (property_names_of w d) ≡ true
      here = sym (any_map test (λ n. (d, n)) (property_names_of w d)) ∙ h

      row : (id : ℕ) (n : Name) → test (d, n) ≡ true → (o : Option PropRow) → m.prop id ≡ o → option_and_then (λ (p : PropRow). if same_object p.definer d then Some p.name else None) o ≡ Some n → (id : ℕ) × (p : PropRow) × (m.prop id ≡ Some p) × (p.definer ≡ d) × (test (p.definer, p.name) ≡ true)
      row id n k o g e = grind (arith, cond_some, same_object-Decides)

      by : (o : Option ObjRow) → m.object d ≡ o → (id : ℕ) × (p : PropRow) × (m.prop id ≡ Some p) × (p.definer ≡ d) × (test (p.definer, p.name) ≡ true)
      by None g = absurd (false≢true (sym (ap (λ (o : Option WorldObject). list_any (λ n. test (d, n)) (unwrap_or (option_map (λ r. r.defines) o) [])) (none_of (w.object d) (is_object_seen m d ∙ ap is_some g))) ∙ here))
      by (Some r) g =
          let k = any_number (name_on m d) (λ n. test (d, n)) (numbers_below t.head.next_prop) (sym (ap (list_any (λ n. test (d, n))) (names_shown m d r g)) ∙ here) in
          row k.0 k.1 k.3 (m.prop k.0) refl k.2

  owed_row : (test : Property → Bool) (l : List ObjNo) → list_any test (defined_by_any w l) ≡ true → (id : ℕ) × (p : PropRow) × (m.prop id ≡ Some p) × (is_among p.definer l ≡ true) × (test (p.definer, p.name) ≡ true)
  owed_row test [] h = absurd (false≢true h)
  owed_row test (d ∷ l) h = grind (arith, any-append test (defined_by w d) (defined_by_any w l), named_row d test, same_object-Decides, owed_row test l)

  -- what passes of what is owed, by the rows
  pub any_owed : (test : Property → Bool) (l : List ObjNo) → list_any test (defined_by_any w l) ≡ list_any (λ e. is_among e.1.definer l && test (e.1.definer, e.1.name)) (entries t.props)
  any_owed test l = decided_alike _ _ (list_any (λ e. is_among e.1.definer l && test (e.1.definer, e.1.name)) (entries t.props) ≡ true) (to, from) (λ e. e, λ e. e)
    where
      to : list_any test (defined_by_any w l) ≡ true → list_any (λ e. is_among e.1.definer l && test (e.1.definer, e.1.name)) (entries t.props) ≡ true
      to h =
          let a = owed_row test l h in
          any_held prop_cmp prop_total prop_exact (λ e. is_among e.1.definer l && test (e.1.definer, e.1.name)) (prop_id a.0) a.1 (entries t.props) (sym (get-entries t.props (prop_id a.0)) ∙ a.2) (λ i. a.3 i && a.4 i)

      from : list_any (λ e. is_among e.1.definer l && test (e.1.definer, e.1.name)) (entries t.props) ≡ true → list_any test (defined_by_any w l) ≡ true
      from h =
          let e = one_passing (λ e. get t.props e.0 ≡ Some e.1) (λ e. is_among e.1.definer l && test (e.1.definer, e.1.name)) (entries t.props) entries_held h in
          let parts = and_parts (is_among e.0.1.definer l) (test (e.0.1.definer, e.0.1.name)) e.2 in
          any_pair test (defined_by_any w l) (e.0.1.definer, e.0.1.name) (owed_listed w l e.0.1.definer (e.0.1.definer, e.0.1.name) parts.0 (defines_pair t sound e.0.0.0 e.0.1 e.1)) parts.1

-- an object has a slot of just the names that are owed to it
pub has_owed : (w : World) → IsWellFormed w → (x : ObjNo) (n : Name) → is_some (slot_of w x n) ≡ is_some (property_named (defined_by_any w (chain w x)) n)
has_owed w wf x n = by (is_object w x) refl
  where
    by : (b : Bool) → is_object w x ≡ b → is_some (slot_of w x n) ≡ is_some (property_named (defined_by_any w (chain w x)) n)
    by true o = grind (arith, some_map, wf.slots x (chain w x) n o (Chain-chain w wf.tree x o))
    by false o = ap is_some (no_slot (w.object x) n o) ∙ sym (ap (λ l. is_some (property_named (defined_by_any w l) n)) (chain_of_none w x o))

-- who defines a slot is in the chain
pub definer_in : (w : World) → IsWellFormed w → (z : ObjNo) → is_object w z ≡ true → (n : Name) (s : Slot) → slot_of w z n ≡ Some s → is_among s.definer (chain w z) ≡ true
definer_in w wf z zo n s e = grind (arith, wf.slots z (chain w z) n zo (Chain-chain w wf.tree z zo), definer_among w, named_owed w (chain w z) n)

-- so an object with a slot of a property that x defines is under x
pub own_under : (t : Maps) → IsGood t → (x z : ObjNo) (j : PropId) (k : SlotRow) → get t.slots (z, j) ≡ Some k → defines t x j ≡ true → is_among x (chain (world_of t) z) ≡ true
own_under t good x z j k e h =
    let p = passing (λ (p : PropRow). same_object p.definer x) (get t.props j) h in
    let zo : is_object (world_of t) z ≡ true = is_object_seen (look_ups t) z ∙ (good.sound.slots z j.0 (ap is_some e)).0 in
    ap (λ d. is_among d (chain (world_of t) z)) (sym ((same_object-Decides p.0.definer x).0 p.2))
    ∙ definer_in (world_of t) good.formed z zo (name_of t j) (slot_seen p.0.definer k) (slot_here t good.sound z j k e p.0 p.1)
