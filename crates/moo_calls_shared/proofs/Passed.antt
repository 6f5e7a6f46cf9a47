-- A call whose check holds, or that finds what it looks for, comes to what follows.
use Rattle.std.proofs.Common.{◌≡◌, Bool, true, Option, Some, ap}
use Rattle.moo_world.specs.{declared.reason.Reason.{Reason}, Outcomes.{Outcome, check, found_or}}

pub check_passed : {S : Type 0} (b : Bool) (failed rest : Outcome S) → b ≡ true → check b failed rest ≡ rest
check_passed b failed rest holds = ap (λ b. check b failed rest) holds

pub found_passed : {A S : Type 0} (o : Option A) (a : A) (reason : Reason) (rest : A → Outcome S) → o ≡ Some a → found_or o reason rest ≡ rest a
found_passed o a reason rest is = ap (λ o. found_or o reason rest) is
