-- What a gate says of a connection that wasn't accepted.
use Rattle.std.{proofs.Common.{◌≡◌, ℕ, ℤ, Bool, inl, inr}, specs.Prelude.{Err}, specs.declared.io.Error.{Error}}
use Rattle.moo_desk.specs.{declared.gate.Taken.{Taken}, declared.gate.Taken.TheVariants.{Came, Nobody, NoRoom, Failed}}
use Rattle.moo_desk.specs.{Pairs.{CountsTaken, IsOfOnePeer}, Calls.{SocketCall, accepts, Asks, SaysWhy, TakesSocket}}

pub none_paired : {R W : Type 0} (from : R → ℤ) (to : W → ℤ) (error : Error) (taken : Taken R W) → SaysWhy error taken → IsOfOnePeer from to taken
none_paired from to error (Came reader writer is_limited) why = absurd why
none_paired from to error Nobody why = tt
none_paired from to error NoRoom why = tt
none_paired from to error Failed why = tt

pub none_counted : {R W : Type 0} (before after : ℕ) (error : Error) (taken : Taken R W) → SaysWhy error taken → after ≡ before → CountsTaken before taken after
none_counted before after error (Came reader writer is_limited) why same = absurd why
none_counted before after error Nobody why same = same
none_counted before after error NoRoom why same = same
none_counted before after error Failed why same = same

module _ {S K R W : Type 0} (does : S → SocketCall K R W → S → Type 0) where
  pub none_taken : (listener : ℤ) (gave : ℕ) (has_taken : Bool) (old asked new : S) (error : Error) (taken : Taken R W) → Asks does listener has_taken old asked
      → does asked (accepts (Err error)) new → SaysWhy error taken → TakesSocket does listener gave has_taken old taken new
  none_taken listener gave has_taken old asked new error (Came reader writer is_limited) asks did why = absurd why
  none_taken listener gave has_taken old asked new error Nobody asks did why = inr (asked, asks, (error, why, did))
  none_taken listener gave has_taken old asked new error NoRoom asks did why = inr (asked, asks, (error, why, did))
  none_taken listener gave has_taken old asked new error Failed asks did why = (asked, asks, inl (error, why, did))
