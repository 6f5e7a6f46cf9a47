-- The head of a request, within the limits of the service.
use Rattle.std.specs.Prelude.{◌≤◌, ℕ, List, length}
use Rattle.httparse.specs.Grammar.{RequestHead, ReadsRequest, print_request}
use Rattle.moo_http_request.specs.declared.head.TheConstants.{MAX_HEAD, MAX_LINES}

-- the input is that head, within the limits, and then rest
pub record BeginsWithHead (input : List ℕ) (head : RequestHead) (rest : List ℕ) : Type 0 where
  pub reads : ReadsRequest input head rest
  pub size : length (print_request head) ≤ MAX_HEAD
  pub lines : length head.fields ≤ MAX_LINES

-- the input begins with no head within the limits
abbrev pub HasNoHead : List ℕ → Type 0
HasNoHead input = (head : RequestHead) (rest : List ℕ) → ¬ (BeginsWithHead input head rest)
