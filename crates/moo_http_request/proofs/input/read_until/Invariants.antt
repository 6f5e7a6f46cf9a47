use Rattle.moo_http_request.proofs.Words.{◌≤◌, ◌-◌, length, max, Grows}
use Rattle.moo_http_request.proofs.input.read_until.Given as goal

abbrev pub invariant-pieces : goal.invariant-pieces
invariant-pieces g l = record {
  grows : Grows (g.R.Read.remaining l.fn.reader) (g.R.Read.remaining l.reader) l.fn.bytes.items l.bytes.items;
  few : length l.bytes.items ≤ max (length l.fn.bytes.items) l.limit;
}

abbrev pub decreases-pieces : goal.decreases-pieces
decreases-pieces g l = l.limit - length l.bytes.items
