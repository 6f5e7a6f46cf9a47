-- Two calls tell the same if their checks pass alike.
use Rattle.moo_world.proofs.Lemmas.{arith, ◌≡◌, option_map, Bool, true, refl, Option, Some, Result, none-some, same_Some, Code, ObjNo, Outcome, Done, Failed, Full, check, found_or, World}
use Rattle.moo_world.specs.Outcomes.{Failure, given, taken_for, with_next}
use Rattle.moo_world.specs.declared.reason.Reason.{Reason}
use Rattle.moo_world.specs.PropertyCalls.{by_field}
use Rattle.moo_world.specs.declared.built_in.BuiltIn.{BuiltIn}

-- two outcomes tell the same, and what they leave is so related
abbrev pub Both : {S : Type 0} → (S → S → Type 0) → Outcome S → Outcome S → Type 0
Both Q (Done a x) (Done b y) = (b ≡ a) × Q x y
Both Q (Failed c) (Failed d) = d ≡ c
Both Q Full Full = Unit {0}
Both Q o q = ⊥

module _ {S : Type 0} (Q : S → S → Type 0) where
  -- a check that fails for a reason of the world's
  pub on_checks_for : (b c : Bool) (failure other : Failure) (r s : Outcome S) → other ≡ failure → c ≡ b → (b ≡ true → Both Q r s) → Both Q (check b (Failed failure) r) (check c (Failed other) s)
  on_checks_for b c failure other r s e f g = grind arith

  pub on_checks : (b c : Bool) (failure : Failure) (r s : Outcome S) → c ≡ b → (b ≡ true → Both Q r s) → Both Q (check b (Failed failure) r) (check c (Failed failure) s)
  on_checks b c failure r s e h = on_checks_for b c failure failure r s refl e h

  pub on_rooms : (b c : Bool) (r s : Outcome S) → c ≡ b → Both Q r s → Both Q (check b Full r) (check c Full s)
  on_rooms b c r s e f = grind arith

  pub on_givens : {A : Type 0} (r : Result A Code) (f g : A → Outcome S) → ((a : A) → Both Q (f a) (g a)) → Both Q (given r f) (given r g)
  on_givens r f g e = grind arith

  pub on_takens : {A : Type 0} (r : Result A Reason) (f g : A → Outcome S) → ((a : A) → Both Q (f a) (g a)) → Both Q (taken_for r f) (taken_for r g)
  on_takens r f g e = grind arith

  pub on_founds : {A : Type 0} (o q : Option A) (reason : Reason) (f g : A → Outcome S) → q ≡ o → ((a : A) → Both Q (f a) (g a)) → Both Q (found_or o reason f) (found_or q reason g)
  on_founds o q reason f g e h = grind (arith, same_Some, none-some)

  -- what is found is the same but for what isn't looked at
  pub on_bare : {A B : Type 0} (bare : A → B) (o q : Option A) (reason : Reason) (f g : A → Outcome S) → option_map bare q ≡ option_map bare o
      → ((a b : A) → o ≡ Some a → q ≡ Some b → bare b ≡ bare a → Both Q (f a) (g b)) → Both Q (found_or o reason f) (found_or q reason g)
  on_bare bare o q reason f g e h = grind (arith, same_Some, none-some)

  pub on_nexts : (o q : Option ObjNo) (f g : ObjNo → Outcome S) → q ≡ o → ((x : ObjNo) → Both Q (f x) (g x)) → Both Q (with_next o f) (with_next q g)
  on_nexts o q f g e h = grind (arith, same_Some, none-some)

pub on_fields : (Q : World → World → Type 0) (o : Option BuiltIn) (f g : BuiltIn → Outcome World) (r s : Outcome World) → ((x : BuiltIn) → Both Q (f x) (g x)) → Both Q r s → Both Q (by_field o f r) (by_field o g s)
on_fields Q o f g r s e h = grind arith
