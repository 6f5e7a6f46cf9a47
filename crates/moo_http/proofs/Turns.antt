-- The connections that a source hands out, served one after another.
use Rattle.moo_http.{proofs.Words.{◌≡◌, ◌≢◌, ◌⊎◌, inl, inr, ℕ, zero, suc, ◌+◌, Bool, true, false, List, [], ◌∷◌, Option, Some, None, refl, subst, arith, ◌∙◌, Result, Ok, Err, is_ok, IfErr, Ghosts, World, AdvancesBy, Place, ServeFault, Read, ServiceFault, Exchanged, Visited, Visit, Attended, ServesFrom, attended_between, ServesOn, visit, settle, Loss, TellsLoss, TellsLosses, Traffic}, proofs.Going.{moves_then}}
use Rattle.std.specs.declared.io.Read as Reading
use Rattle.std.specs.declared.io.Write as Writing
use Rattle.moo_arrivals.specs.declared.arrivals.Arrivals as Arrivals
use Rattle.moo_http.specs.declared.ports.Ports as Ports
use Rattle.moo_http.specs.declared.service.ServiceFault.TheVariants as service

-- ---- one connection

-- by whether it was answered; of a fault of one that is read the cause is known
pub visited : (Failed Unlimited : Type 0) (r : Result (Unit {0}) ServeFault) (answered : Bool) (from to : Place) (bytes : Traffic) → answered ≡ is_ok r → IfErr r (λ fault. fault ≡ Read → Failed) → Exchanged r from to bytes
    → Visited (Failed ⊎ Unlimited) answered from to bytes
visited Failed Unlimited (Ok done) answered from to bytes is cause it = rw is it
visited Failed Unlimited (Err fault) answered from to bytes is cause it = rw is (fault, (λ same. inl (cause same)), it)

-- ---- many

module _ {A R W : Type 0} (source : Arrivals.Ghosts A R W) (reader : Reading.Ghosts R) (fails : R → R → Type 0) (writer : Writing.Ghosts W) where
  -- from the connections of a source that was opened on a port and closed to those of the port
  pub serves_on : {P : Type 0} (ports : Ports.Ghosts P A R W) (first between last : P) (r : Result (Unit {0}) ServiceFault) (port count : ℕ) (old : A) (from : Place) (new : A) (to : Place) (before after : Option (List ℕ))
      → ports.listens first port (Some old) between → ports.closes between new last → IfErr r (λ fault. fault ≢ service.Port)
      → ServesFrom source reader fails writer r port count old from new to before after → ServesOn (attended_between source reader fails writer ports first last) r port count from to before after
  serves_on ports first between last (Ok done) port count old from new to before after opened closed other (text, (answered, failed, sum, holds, is), wrote) =
      (text, (answered, failed, sum, (between, old, new, opened, holds, closed), is), wrote)
  serves_on ports first between last (Err service.Port) port count old from new to before after opened closed other it = absurd (other refl)
  serves_on ports first between last (Err service.Write) port count old from new to before after opened closed other (inl (stays, front)) =
      inl ((stays.1, (between, old, new, opened, (([], refl, refl, (stays.0, stays.1)), inl refl), closed)), front)
  serves_on ports first between last (Err service.Write) port count old from new to before after opened closed other (inr (text, (answered, failed, sum, holds, is), front)) =
      inr (text, (answered, failed, sum, (between, old, new, opened, holds, closed), is), front)
  serves_on ports first between last (Err service.OutOfMemory) port count old from new to before after opened closed other (inl (stays, front)) =
      inl ((stays.1, (between, old, new, opened, (([], refl, refl, (stays.0, stays.1)), inl refl), closed)), front)
  serves_on ports first between last (Err service.OutOfMemory) port count old from new to before after opened closed other (inr (text, (answered, failed, sum, holds, is), front)) =
      inr (text, (answered, failed, sum, (between, old, new, opened, holds, closed), is), front)

-- ---- one more

-- by whether one more was answered, how many were answered and failed before it and after it
abbrev pub CountsOne : Bool → ℕ → ℕ → ℕ → ℕ → Type 0
CountsOne result answered failed some more = ((result ≡ true) × (some ≡ answered + 1) × (more ≡ failed)) ⊎ ((result ≡ false) × (some ≡ answered) × (more ≡ failed + 1))

pub counts_sum : (result : Bool) (answered failed some more : ℕ) → CountsOne result answered failed some more → some + more ≡ answered + failed + 1
counts_sum result answered failed some more (inl (is, s, m)) = omega (arith, s, m)
counts_sum result answered failed some more (inr (is, s, m)) = omega (arith, s, m)

-- ---- answers that were lost

-- asking for lost answers changes no sum
settles_sum : {A : Type 0} (loses : A → Option Loss → A → Type 0) (from to : A) (answered failed left lost : ℕ) → TellsLoss loses from answered failed to left lost → answered + failed ≡ left + lost
settles_sum loses from to answered failed left lost (inl (same, some, more)) = omega (arith, some, more)
settles_sum loses from to answered failed left lost (inr (inl (told, some, more))) = omega (arith, some, more)
settles_sum loses from to answered failed left lost (inr (inr (loss, told, some, more))) = omega (arith, some, more)

pub settles_all_sum : {A : Type 0} (loses : A → Option Loss → A → Type 0) (asked : ℕ) (from to : A) (answered failed left lost : ℕ) → TellsLosses loses asked from answered failed to left lost → answered + failed ≡ left + lost
settles_all_sum loses zero from to answered failed left lost (same, some, more) = omega (arith, some, more)
settles_all_sum loses (suc n) from to answered failed left lost (mid, some, more, earlier, last) =
    settles_all_sum loses n from mid answered failed some more earlier ∙ settles_sum loses mid to some more left lost last

module _ {A R W : Type 0} (source : Arrivals.Ghosts A R W) (reader : Reading.Ghosts R) (fails : R → R → Type 0) (writer : Writing.Ghosts W) where
  -- some turns, and then one more
  one_more : (old : A) (from : Place) (between : A) (mid : Place) (new : A) (to : Place) (result : Bool) (answered failed some more : ℕ) → CountsOne result answered failed some more
      → Attended source reader fails writer answered failed old from between mid → Visit source reader fails writer result between mid new to → Attended source reader fails writer some more old from new to
  one_more old from between mid new to result answered failed some more (inl (is, s, m)) (turns, a, f, after) turn =
      (visit true ∷ turns, omega (arith, a, s), omega (arith, f, m), (between, mid, after, subst (λ b. Visit source reader fails writer b between mid new to) is turn))
  one_more old from between mid new to result answered failed some more (inr (is, s, m)) (turns, a, f, after) turn =
      (visit false ∷ turns, omega (arith, a, s), omega (arith, f, m), (between, mid, after, subst (λ b. Visit source reader fails writer b between mid new to) is turn))

  -- after that the source was asked once for a lost answer
  pub attended_on : (old : A) (from : Place) (between new : A) (to : Place) (answered failed left lost : ℕ) → Attended source reader fails writer answered failed old from between to
      → TellsLoss source.loses between answered failed new left lost → Attended source reader fails writer left lost old from new to
  attended_on old from between new to answered failed left lost it (inl (same, some, more)) = rw (same, some, more) it
  attended_on old from between new to answered failed left lost (turns, a, f, after) (inr (inl (told, some, more))) =
      rw (some, more) (settle None ∷ turns, a, f, (between, to, after, (told, refl)))
  attended_on old from between new to answered failed left lost (turns, a, f, after) (inr (inr (loss, told, some, more))) =
      (settle (Some loss) ∷ turns, omega (arith, a, some), omega (arith, f, more), (between, to, after, (told, refl)))

  -- or so often
  pub attended_all : (asked : ℕ) (old : A) (from : Place) (between new : A) (to : Place) (answered failed left lost : ℕ) → Attended source reader fails writer answered failed old from between to
      → TellsLosses source.loses asked between answered failed new left lost → Attended source reader fails writer left lost old from new to
  attended_all zero old from between new to answered failed left lost it (same, some, more) = rw (same, some, more) it
  attended_all (suc n) old from between new to answered failed left lost it (mid, some, more, earlier, last) =
      attended_on old from mid new to some more left lost (attended_all n old from between mid to answered failed some more it earlier) last

  -- From a source to another, by how many of so many turns were answered and failed.
  pub record Passed {S : Type 0} (g : Ghosts S) (was world : World S) (old new : A) (answered failed count : ℕ) : Type 0 where
    pub sum : answered + failed ≡ count
    pub moves : AdvancesBy g was world (λ from to. Attended source reader fails writer answered failed old from new to)

  -- after so many turns one more, and then the source was asked once for a lost answer
  pub passed_on : {S : Type 0} (g : Ghosts S) (was mid world : World S) (first between next last : A) (result : Bool) (answered failed some more left lost count : ℕ) → Passed g was mid first between answered failed count
      → AdvancesBy g mid world (λ from to. Visit source reader fails writer result between from next to) → CountsOne result answered failed some more
      → TellsLoss source.loses next some more last left lost → Passed g was world first last left lost (count + 1)
  passed_on g was mid world first between next last result answered failed some more left lost count it visits counts told = record {
    sum = omega (arith, settles_sum source.loses next last some more left lost told, counts_sum result answered failed some more counts, it.sum);
    moves = moves_then it.moves visits (λ from at to one turn.
        attended_on first from next last to some more left lost (one_more first from between at next to result answered failed some more counts one turn) told);
  }
