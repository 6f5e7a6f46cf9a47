use Rattle.moo_http_request.{proofs.Words.{◌<◌, ◌≤◌, ◌+◌, length, max, rules, IsAtEnd}, proofs.Giving.{taken, on_err}, proofs.RequestLemmas.{body_short, body_whole}}
use Rattle.moo_http_request.proofs.body.follow_plan.Goals as goal

pub returns-in_ok-asked-in-Body-clause-asks : goal.returns-in_ok-asked-in-Body-clause-asks
returns-in_ok-asked-in-Body-clause-asks g c =
    rw c.in-Body.is (body_whole _ c.read_until.new.bytes.items c.args.start c.in-Body.size c.in-Body.form _ (search rules) (rw c.deref.ensures.value at c.in_ok-asked-in-Body.ensures))

pub returns-then-not-branch-clause-asks : goal.returns-then-not-branch-clause-asks
returns-then-not-branch-clause-asks g c =
    let short : length c.read_until.new.bytes.items < c.args.start + c.in-Body.size = search rules in
    let end : IsAtEnd (g.R.Read.remaining c.read_until.new.reader) = search rules in
    rw c.in-Body.is (rw c.refuse.ensures
    (body_short _ _ _ c.read_until.new.bytes.items c.args.start c.in-Body.size c.in-Body.form c.requires.inside c.in_ok-read_until-in-Body.ensures.grows short end))

pub returns-in_err-asked-in-Body-clause-breaks : goal.returns-in_err-asked-in-Body-clause-breaks
returns-in_err-asked-in-Body-clause-breaks g c =
    let few : length c.read_until.new.bytes.items ≤ max (length c.args.bytes.now.items) (c.args.start + c.in-Body.size) = search rules in
    rw c.in-Body.is (on_err _ _ (taken _ _ _ _ (c.args.start + c.in-Body.size) few c.in_ok-read_until-in-Body.ensures.grows))
