-- A call whose check fails, or that doesn't find what it looks for, fails for the reason of that check.
use Rattle.std.proofs.Common.{◌≡◌, Bool, false, Option, None, ap}
use Rattle.moo_world.specs.{declared.reason.Reason.{Reason}, Outcomes.{Outcome, fails, check, found_or}}

pub check_failed : {S : Type 0} (b : Bool) (failed rest : Outcome S) → b ≡ false → check b failed rest ≡ failed
check_failed b failed rest not_so = ap (λ b. check b failed rest) not_so

pub found_failed : {A S : Type 0} (o : Option A) (reason : Reason) (rest : A → Outcome S) → o ≡ None → found_or o reason rest ≡ fails reason
found_failed o reason rest is = ap (λ o. found_or o reason rest) is
