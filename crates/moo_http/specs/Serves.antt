-- What a request makes of its bytes, of the World and of what is written.
use Rattle.std.specs.{Prelude.{◌≡◌, ⊤, ℕ, Option, List, [], take, Result, Ok, Err, Bool, false}, Io.KnownBytes.{Appends}}
use Rattle.moo_store.specs.Place.{Place}
use Rattle.moo_http_request.specs.{Request.{Takes}, declared.asked.Asked.{Asked}}
use Rattle.moo_http_request.specs.declared.asked.Asked.TheVariants as asked
use Rattle.moo_arrivals.specs.{declared.arrivals.Closing.{Closing}, declared.arrivals.Closing.TheVariants.{Gently}}
use Rattle.moo_http_request.specs.{declared.request.Received.{Received}, declared.request.Received.TheVariants.{Nothing, Request}}
use Rattle.moo_http.specs.{declared.fault.ServeFault.{ServeFault}, declared.fault.ServeFault.TheVariants.{Read, Write, OutOfMemory}}
use Rattle.moo_http.specs.Answers.{MayAnswer}
use Rattle.moo_http_response.specs.{declared.outcome.RequestOutcome.{RequestOutcome}, Responses.{response_with, response_text}}

-- what is received is refused, before the World is asked
abbrev pub HasRefusal : Received → Type 0
HasRefusal Nothing = ⊥
HasRefusal (Request is_head asks_why (asked.Refused refusal)) = ⊤
HasRefusal (Request is_head asks_why asked) = ⊥

-- The reader gave some bytes, and if what they ask is refused the connection is to be closed gently, as a part of it may be unread.
abbrev pub ClosesGently : Option (List ℕ) → Option (List ℕ) → Closing → Type 0
ClosesGently left rest closing = (received : Received) × Takes left rest received × (HasRefusal received → closing ≡ Gently)

-- The answer to what is received: nothing if nothing came. It is said why a body, a batch or a call alone is refused only if that was
-- asked too.
abbrev pub Gets : Place → Received → List ℕ → Place → Type 0
Gets from Nothing output to = (output ≡ []) × (to ≡ from)
Gets from (Request is_head asks_why asked) output to =
    (o : RequestOutcome) × (whys : List (Option (List ℕ))) × (asks_why ≡ false → whys ≡ []) × MayAnswer from asked o to
    × (output ≡ response_text is_head (response_with asks_why whys o))

-- what is written of an output, by the result: all of it; or the beginning of it, if the writer failed; or nothing
abbrev pub Written : Result (Unit {0}) ServeFault → Option (List ℕ) → Option (List ℕ) → List ℕ → Type 0
Written (Ok done) before behind output = Appends before behind output
Written (Err Write) before behind output = (sent : ℕ) × Appends before behind (take sent output)
Written (Err Read) before behind output = behind ≡ before
Written (Err OutOfMemory) before behind output = behind ≡ before

-- A World at this place was asked, and its answer is written, as far as the result says. It says why it refuses only if that was asked.
abbrev pub AnswersAsked : (is_head asks_why : Bool) → Asked → Result (Unit {0}) ServeFault → Place → Place
    → Option (List ℕ) → Option (List ℕ) → Type 0
AnswersAsked is_head asks_why asked result from to before behind =
    (o : RequestOutcome) × (whys : List (Option (List ℕ))) × (asks_why ≡ false → whys ≡ []) × MayAnswer from asked o to
    × Written result before behind (response_text is_head (response_with asks_why whys o))
