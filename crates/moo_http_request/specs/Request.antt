-- What the bytes of a connection ask.
use Rattle.std.specs.{Prelude.{◌≡◌, ◌≢◌, ◌⊎◌, ◌≤◌, ◌<◌, ◌+◌, ℕ, List, [], length, take, Option, false, max}, Io.KnownBytes.{Consumes}}
use Rattle.httparse.specs.Grammar.{RequestHead, print_request}
use Rattle.moo_http_request.specs.{declared.asked.Asked.{Asked}, declared.asked.Asked.TheVariants.{Refused}}
use Rattle.moo_http_request.specs.{declared.asked.Refusal.TheVariants.{BadRequest}, declared.plan.Plan.{Plan}}
use Rattle.moo_http_request.specs.{declared.plan.Plan.TheVariants.{Decided, Body}, declared.request.Received.{Received}}
use Rattle.moo_http_request.specs.{declared.request.Received.TheVariants.{Nothing, Request}, Body.{BodyAsks}}
use Rattle.moo_http_request.specs.{Head.{BeginsWithHead, HasNoHead}, Plan.{plan_by, body_size, is_head, asks_why}, Settled.{Settles}}
use Rattle.moo_http_request.specs.declared.head.TheConstants.{MAX_HEAD}

-- What is planned, done with what follows the head: a body of n bytes is its first n, and without so many the request is cut off.
abbrev pub PlanAsks : Plan → List ℕ → Asked → Type 0
PlanAsks (Decided decided) rest asked = asked ≡ decided
PlanAsks (Body form n) rest asked =
    ((n ≤ length rest) × BodyAsks form (take n rest) asked) ⊎ ((length rest < n) × (asked ≡ Refused BadRequest))

-- What the bytes of a connection ask: nothing if there are none; a bad request if they begin with no head; else what the one
-- head and the bytes after it ask.
pub data Receives (input : List ℕ) (received : Received) : Type 0 where
  nothing : input ≡ [] → received ≡ Nothing → Receives input received
  no_head : input ≢ [] → HasNoHead input → received ≡ Request false false (Refused BadRequest) → Receives input received
  request : (head : RequestHead) (rest : List ℕ) (asked : Asked) → BeginsWithHead input head rest → PlanAsks (plan_by head) rest asked
      → received ≡ Request (is_head head) (asks_why head) asked → Receives input received

-- No more bytes are taken than are needed: 8,192 at most; or they begin with a head, and none is after the body that it plans.
pub data IsSparing (given : List ℕ) : Type 0 where
  small : length given ≤ MAX_HEAD → IsSparing given
  body : (head : RequestHead) (rest : List ℕ) → BeginsWithHead given head rest → length given ≤ length (print_request head) + body_size (plan_by head)
      → IsSparing given

-- From old to new the reader gave these bytes, no more than are needed. If it tells its bytes, they were the first, and are gone.
pub record GivesSparingly (old new : Option (List ℕ)) (given : List ℕ) : Type 0 where
  pub known : Consumes old new given
  pub sparing : IsSparing given

-- The reader gave some bytes, and this is received of them. After a head come at most 1,023 bytes, or as many as
-- its body has if these are more.
pub record Takes (old new : Option (List ℕ)) (received : Received) : Type 0 where
  pub given : List ℕ
  pub gives : GivesSparingly old new given
  pub settles : Settles new given (λ input. Receives input received)
  pub behind : (head : RequestHead) (rest : List ℕ) → BeginsWithHead given head rest → length rest ≤ max 1023 (body_size (plan_by head))

-- The reader gave some bytes, and there reading stopped.
pub record StopsReading (old new : Option (List ℕ)) : Type 0 where
  pub given : List ℕ
  pub gives : GivesSparingly old new given
