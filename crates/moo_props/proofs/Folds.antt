-- What one step for each element of a list changes, and what it leaves as it was.
use Rattle.moo_props.proofs.Words.{◌||◌, ◌≡◌, Bool, cond, List, [], ◌∷◌, refl, ap, ◌∙◌, list_any, AllByRecursion, FinMap, Base, Held, Maps, object_cmp, prop_cmp, slot_cmp, verb_cmp, ObjRow, PropRow, SlotRow, VerbRow, after_each, ◌+◌, ◌≤◌, arith, length}
use Rattle.std.specs.Prelude.{⊤}

-- ---- all but one map

-- the rows by one of the maps, and what they are over
abbrev pub Rest : Type 0 → Type 0
Rest X = (X → Maps) × Base

abbrev pub but_objects : Held → Rest (FinMap object_cmp ObjRow)
but_objects held = (λ rows. record (held.maps) { objects = rows }, held.base)

abbrev pub but_props : Held → Rest (FinMap prop_cmp PropRow)
but_props held = (λ rows. record (held.maps) { props = rows }, held.base)

abbrev pub but_slots : Held → Rest (FinMap slot_cmp SlotRow)
but_slots held = (λ rows. record (held.maps) { slots = rows }, held.base)

abbrev pub but_verbs : Held → Rest (FinMap verb_cmp VerbRow)
but_verbs held = (λ rows. record (held.maps) { verbs = rows }, held.base)

pub same_maps : {X : Type 0} {a b : Rest X} → a ≡ b → (rows : X) → a.0 rows ≡ b.0 rows
same_maps {X = X} e rows = ap (λ (r : Rest X). r.0 rows) e

pub same_base : {X : Type 0} {a b : Rest X} → a ≡ b → a.1 ≡ b.1
same_base {X = X} e = ap (λ (r : Rest X). r.1) e

-- ---- one value

all_any : {Y : Type 0} (ys : List Y) → AllByRecursion (λ (y : Y). ⊤) ys
all_any [] = tt
all_any (y ∷ ys) = (tt, all_any ys)

changed_or : {Z : Type 0} (change : Z → Z) → ((v : Z) → change (change v) ≡ change v) → (a b : Bool) (v : Z) → cond b (change (cond a (change v) v)) (cond a (change v) v) ≡ cond (a || b) (change v) v
changed_or change twice o b v = grind arith

module _ {Y : Type 0} (step : Y → Held → Held) where
  -- what no step changes
  pub all_keep : {Z : Type 0} (see : Held → Z) → ((y : Y) (held : Held) → see (step y held) ≡ see held) → (ys : List Y) (held : Held) → see (after_each step ys held) ≡ see held
  all_keep see keeps [] held = refl
  all_keep see keeps (y ∷ ys) held = all_keep see keeps ys (step y held) ∙ keeps y held

  -- each step writes a row at most
  pub all_write : ((y : Y) (held : Held) → (step y held).writes ≤ held.writes + 1) → (ys : List Y) (held : Held) → (after_each step ys held).writes ≤ held.writes + length ys
  all_write one [] held = omega arith
  all_write one (y ∷ ys) held = omega (arith, all_write one ys (step y held), one y held)

  -- a value that each step changes for what passes a test is changed once if one passes, if a second change does nothing
  module _ {Z : Type 0} (see : Held → Z) (test : Y → Bool) (change : Z → Z) (twice : (v : Z) → change (change v) ≡ change v) where
    pub all_of_change : (P : Y → Type 0) → ((y : Y) (held : Held) → P y → see (step y held) ≡ cond (test y) (change (see held)) (see held)) → (ys : List Y) (held : Held) → AllByRecursion P ys → see (after_each step ys held) ≡ cond (list_any test ys) (change (see held)) (see held)
    all_of_change P one [] held h = refl
    all_of_change P one (y ∷ ys) held h = grind (arith, changed_or, all_of_change P one ys)

    pub all_change : ((y : Y) (held : Held) → see (step y held) ≡ cond (test y) (change (see held)) (see held)) → (ys : List Y) (held : Held) → see (after_each step ys held) ≡ cond (list_any test ys) (change (see held)) (see held)
    all_change one ys held = all_of_change (λ y. ⊤) (λ y held h. one y held) ys held (all_any ys)
