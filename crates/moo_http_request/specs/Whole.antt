-- When a request is whole.
use Rattle.std.specs.Prelude.{◌≡◌, ◌≤◌, ◌<◌, ℕ, Bool, List, ◌++◌, length}
use Rattle.moo_http_request.specs.{declared.asked.Asked.TheVariants.{Refused}, declared.asked.Refusal.TheVariants.{BadRequest}}
use Rattle.moo_http_request.specs.{declared.request.Received.{Received}, declared.request.Received.TheVariants.{Request}}
use Rattle.moo_http_request.specs.{declared.whole.Wanted.{Wanted}, declared.whole.Wanted.TheVariants.{Head, Total}, Found.{Lacks}}
use Rattle.moo_http_request.specs.{Request.{Receives}, declared.head.TheConstants.{MAX_HEAD}}

-- a request that is whole: bytes that follow these change nothing of what these ask
abbrev pub IsWhole : List ℕ → Type 0
IsWhole input = (more : List ℕ) (received : Received) → Receives input received → Receives (input ++ more) received

-- what these bytes ask is refused as a bad request, since the request is cut off
abbrev pub IsCutOff : List ℕ → Type 0
IsCutOff input = (received : Received) → Receives input received → (is_head asks_why : Bool) × (received ≡ Request is_head asks_why (Refused BadRequest))

-- A request that begins with these bytes is whole from n bytes on, and cut off before.
pub record IsWholeFrom (bytes : List ℕ) (n : ℕ) : Type 0 where
  pub whole : (rest : List ℕ) → n ≤ length (bytes ++ rest) → IsWhole (bytes ++ rest)
  pub cut : (rest : List ℕ) → length (bytes ++ rest) < n → IsCutOff (bytes ++ rest)

-- what these bytes show of the end of their request: that no head ends in them, or where it ends
abbrev pub ShowsEnd : List ℕ → Wanted → Type 0
ShowsEnd bytes Head = Lacks bytes × (length bytes < MAX_HEAD)
ShowsEnd bytes (Total n) = IsWholeFrom bytes n
