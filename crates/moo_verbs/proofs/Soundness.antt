-- Rows stay sound where a verb is put or removed.
use Rattle.moo_verbs.{proofs.Words.{◌≡◌, ℕ, ◌<◌, ◌≤◌, Bool, true, false, refl, sym, ap, ◌∙◌, inl, inr, arith, is_some, cases_eq, false≢true, ObjNo, VerbId, VerbRow, Maps, same_object, same_object-Decides, IsSound}, proofs.Directories.{put, put_other, put_apart, rest, rest_other, rest_apart, rest_here}, proofs.Entries.{row_at}}
use Rattle.std.specs.FinMap.{get, insert, remove as less}

module _ (m : Maps) (sound : IsSound m) (x : ObjNo) (id : VerbId) where
  module _ (row : VerbRow) (next : ℕ) (object : is_some (get m.objects x) ≡ true) (positive : 0 < id.0) (low : id.0 < next) (higher : m.head.next_verb ≤ next) where
    put_verbs : (y : ObjNo) (j : ℕ) → is_some (put m x id row y j) ≡ true → (is_some (get m.objects y) ≡ true) × (0 < j) × (j < next)
    put_verbs y j e = by (same_object x y) refl
      where
        before : (z : ObjNo) → is_some (row_at m z j) ≡ true → (is_some (get m.objects z) ≡ true) × (0 < j) × (j < next)
        before z h = let v = sound.verbs z j h in (v.0, v.1, omega (arith, v.2))

        own : is_some (put m x id row x j) ≡ true → (is_some (get m.objects x) ≡ true) × (0 < j) × (j < next)
        own h = elim (cases_eq j id.0) [
          | inl q ↦ (object, omega arith, omega arith)
          | inr ne ↦ before x (ap is_some (sym (put_apart m x id row j ne)) ∙ h)
        ]

        by : (b : Bool) → same_object x y ≡ b → (is_some (get m.objects y) ≡ true) × (0 < j) × (j < next)
        by true g =
            let same : x ≡ y = (same_object-Decides x y).0 g in
            let there = own (ap (λ z. is_some (put m x id row z j)) same ∙ e) in
            (ap (λ z. is_some (get m.objects z)) (sym same) ∙ there.0, there.1, there.2)
        by false g = before y ((λ i. is_some (sym (put_other m x id row y g) i j)) ∙ e)

    pub put_sound : IsSound (record m { head = record m.head { next_verb = next }; verbs = insert m.verbs (x, id) row })
    put_sound = record { props_below = sound.props_below; definers = sound.definers; slots = sound.slots; one_name = sound.one_name; verbs = put_verbs }

  rest_verbs : (y : ObjNo) (j : ℕ) → is_some (rest m x id y j) ≡ true → is_some (row_at m y j) ≡ true
  rest_verbs y j e = by (same_object x y) refl
    where
      own : is_some (rest m x id x j) ≡ true → is_some (row_at m x j) ≡ true
      own h = elim (cases_eq j id.0) [
        | inl q ↦ absurd (false≢true (sym (ap is_some (ap (rest m x id x) q ∙ rest_here m x id)) ∙ h))
        | inr ne ↦ ap is_some (sym (rest_apart m x id j ne)) ∙ h
      ]

      by : (b : Bool) → same_object x y ≡ b → is_some (row_at m y j) ≡ true
      by true g =
          let same : x ≡ y = (same_object-Decides x y).0 g in
          ap (λ z. is_some (row_at m z j)) (sym same) ∙ own (ap (λ z. is_some (rest m x id z j)) same ∙ e)
      by false g = (λ i. is_some (sym (rest_other m x id y g) i j)) ∙ e

  pub rest_sound : IsSound (record m { verbs = less m.verbs (x, id) })
  rest_sound = record { props_below = sound.props_below; definers = sound.definers; slots = sound.slots; one_name = sound.one_name; verbs = λ y j e. sound.verbs y j (rest_verbs y j e) }
