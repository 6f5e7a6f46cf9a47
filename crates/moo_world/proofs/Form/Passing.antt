-- What holds of all that a call leaves, along its checks: of every world, and of every state.
use Rattle.moo_world.proofs.Words.{arith, ◌≡◌, Bool, true, subst, Option, Some, Result, Ok, Code, ObjNo, Value, BuiltIn, Reason, Failure, Outcome, Done, Failed, Full, check, given, taken_for, with_next, found_or, by_field, World}

-- an answer and what is left are so; an error leaves nothing
unfoldable pub Holds : {S : Type 0} → (Value → S → Type 0) → Outcome S → Type 0
Holds P (Done v next) = P v next
Holds P (Failed failure) = Unit {0}
Holds P Full = Unit {0}

pub of_done : {S : Type 0} (P : Value → S → Type 0) (o : Outcome S) (v : Value) (next : S) → Holds P o → o ≡ Done v next → P v next
unfolding Holds
of_done P o v next h e = subst (Holds P) e h

pub on_check : {S : Type 0} (P : Value → S → Type 0) (b : Bool) (failure : Failure) (rest : Outcome S) → (b ≡ true → Holds P rest) → Holds P (check b (Failed failure) rest)
unfolding Holds
on_check P b failure rest h = grind arith

pub on_room : {S : Type 0} (P : Value → S → Type 0) (b : Bool) (rest : Outcome S) → (b ≡ true → Holds P rest) → Holds P (check b Full rest)
unfolding Holds
on_room P b rest h = grind arith

pub on_given : {A S : Type 0} (P : Value → S → Type 0) (r : Result A Code) (rest : A → Outcome S) → ((a : A) → r ≡ Ok a → Holds P (rest a)) → Holds P (given r rest)
unfolding Holds
on_given P r rest h = grind arith

pub on_taken : {A S : Type 0} (P : Value → S → Type 0) (r : Result A Reason) (rest : A → Outcome S) → ((a : A) → r ≡ Ok a → Holds P (rest a)) → Holds P (taken_for r rest)
unfolding Holds
on_taken P r rest h = grind arith

pub on_found : {A S : Type 0} (P : Value → S → Type 0) (o : Option A) (reason : Reason) (rest : A → Outcome S) → ((a : A) → o ≡ Some a → Holds P (rest a)) → Holds P (found_or o reason rest)
unfolding Holds
on_found P o reason rest h = grind arith

pub on_next : {S : Type 0} (P : Value → S → Type 0) (o : Option ObjNo) (rest : ObjNo → Outcome S) → ((x : ObjNo) → o ≡ Some x → Holds P (rest x)) → Holds P (with_next o rest)
unfolding Holds
on_next P o rest h = grind arith

pub on_field : (P : Value → World → Type 0) (o : Option BuiltIn) (field : BuiltIn → Outcome World) (other : Outcome World) → ((f : BuiltIn) → Holds P (field f)) → Holds P other → Holds P (by_field o field other)
unfolding Holds
on_field P o field other h k = grind arith

pub on_done : {S : Type 0} (P : Value → S → Type 0) (v : Value) (next : S) → P v next → Holds P (Done v next)
unfolding Holds
on_done P v next h = h

pub on_failed : {S : Type 0} (P : Value → S → Type 0) (failure : Failure) → Holds P (Failed failure)
unfolding Holds
on_failed P failure = tt

-- the checks of a call, one after another
pub ruleset each_check = (on_check, on_room, on_given, on_taken, on_found, on_next, on_field, on_done, on_failed)
