use Rattle.moo_http_request.{proofs.Words.{◌<◌, ◌≤◌, length, arith, rules}, proofs.Giving.{Grows-then, taken_then, on_err}}
use Rattle.moo_http_request.proofs.input.read_until.Goals as goal

pub returns-in_err-read_more-clause-breaks : goal.returns-in_err-read_more-clause-breaks
returns-in_err-read_more-clause-breaks g c =
    on_err _ _ (taken_then _ _ _ _ _ c.args.limit (search rules) c.pieces.invariant.grows c.in_err-read_more.ensures.breaks)

pub returns-then-not-branch-clause-grows : goal.returns-then-not-branch-clause-grows
returns-then-not-branch-clause-grows g c = Grows-then _ _ _ _ _ _ c.pieces.invariant.grows c.in_ok-read_more.ensures.grows

pub pieces-preserved : goal.pieces-preserved
pieces-preserved g c =
    let more : (length c.pieces.bytes.items < length c.read_more.new.bytes.items) × (length c.read_more.new.bytes.items ≤ c.args.limit) = search rules in
    record {
      grows = Grows-then _ _ _ _ _ _ c.pieces.invariant.grows c.in_ok-read_more.ensures.grows;
      few = omega (arith, more.1);
    }
