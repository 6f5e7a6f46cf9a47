-- When a connection may be handed out.
use Rattle.std.specs.Prelude.{◌≡◌, ◌≢◌, ◌⊎◌, ℕ, Bool, false, List, Option, Some}
use Rattle.moo_http_request.specs.Whole.{IsWhole, IsWholeFrom}
use Rattle.moo_desk.specs.{declared.gathered.Coming.{Coming}, declared.gathered.Coming.TheVariants.{More}}

-- these bytes are a whole request; or nothing more of it comes; or its waits aren't limited, so that it isn't read at all
abbrev pub IsRipe : Bool → Coming → List ℕ → Type 0
IsRipe is_limited coming bytes = IsWhole bytes ⊎ ((coming ≢ More) ⊎ (is_limited ≡ false))

-- a request that begins with these bytes is whole from so many on, if that is known
abbrev pub IsKnownFrom : List ℕ → Option ℕ → Type 0
IsKnownFrom bytes total = (n : ℕ) → total ≡ Some n → IsWholeFrom bytes n
