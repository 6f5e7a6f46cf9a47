-- What was found of a head.
use Rattle.std.specs.{Prelude.{◌≡◌, ◌≢◌, ◌<◌, ◌+◌, ℕ, List, [], ◌++◌, length, drop, Option, ⊤}, Io.KnownBytes.{IsAtEnd}}
use Rattle.httparse.specs.{Grammar.{RequestHead}, Spans.{IsRequestAt, IsRequestWithin}}
use Rattle.moo_http_request.specs.{Head.{BeginsWithHead, HasNoHead}, Settled.{Settles}, declared.head.HeadSpans.{HeadSpans}}
use Rattle.moo_http_request.specs.{declared.head.HeadRead.{HeadRead}, declared.head.HeadRead.TheVariants.{Whole, Refused, Empty}}

-- a head is at the front of the bytes, whichever bytes follow, and its parts are where they were found
pub record HeadStands (bytes : List ℕ) (found : HeadSpans) : Type 0 where
  pub head : RequestHead
  pub begins : (more : List ℕ) → BeginsWithHead (bytes ++ more) head (drop found.spans.len bytes ++ more)
  pub at : IsRequestAt bytes found.headers found.spans head
  pub within : IsRequestWithin bytes found.headers found.spans

-- the input isn't empty, and begins with no head within the limits
abbrev pub Lacks : List ℕ → Type 0
Lacks input = (input ≢ []) × HasNoHead input

-- what the bytes that were given say of the head
abbrev pub FindsHead : Option (List ℕ) → List ℕ → HeadRead → Type 0
FindsHead left given (Whole found) = HeadStands given found
FindsHead left given Refused = Settles left given Lacks
FindsHead left given Empty = (given ≡ []) × IsAtEnd left

-- what bytes say of the head by themselves, whichever bytes follow
abbrev pub ShowsHead : List ℕ → HeadRead → Type 0
ShowsHead bytes (Whole found) = HeadStands bytes found
ShowsHead bytes Refused = (more : List ℕ) → Lacks (bytes ++ more)
ShowsHead bytes Empty = ⊥

-- the bytes end less than 1,024 bytes after a head that was found: it ends in the last piece that was read
abbrev pub IsClose : List ℕ → HeadRead → Type 0
IsClose bytes (Whole found) = length bytes < found.spans.len + 1024
IsClose bytes Refused = ⊤
IsClose bytes Empty = ⊤
