use Rattle.moo_http_request.{proofs.Words.{◌≤◌, ◌<◌, ◌-◌, length, Consumes}, proofs.HeadLemmas.{IsFresh}}
use Rattle.moo_http_request.proofs.head.read_head.Given as goal
use Rattle.moo_http_request.specs.declared.head.TheConstants.{MAX_HEAD}

abbrev pub invariant-pieces : goal.invariant-pieces
invariant-pieces g l = record {
  some : 0 < length l.bytes.items;
  few : length l.bytes.items ≤ MAX_HEAD;
  fresh : IsFresh l.bytes.items;
  taken : Consumes (g.R.Read.remaining l.fn.reader) (g.R.Read.remaining l.reader) l.bytes.items;
}

abbrev pub decreases-pieces : goal.decreases-pieces
decreases-pieces g l = MAX_HEAD - length l.bytes.items
