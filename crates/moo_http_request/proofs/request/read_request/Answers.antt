use Rattle.moo_http_request.{proofs.Giving.{on_err}, proofs.RequestLemmas.{takes_of, takes_nothing, takes_refused, breaks_of}}
use Rattle.moo_http_request.proofs.request.read_request.Goals as goal

pub returns-in_err-asked-clause-breaks : goal.returns-in_err-asked-clause-breaks
returns-in_err-asked-clause-breaks g c =
    let stands = rw c.in-Whole.is at c.in_ok-read_head.ensures.head in
    let plan = (rw c.deref-3.ensures.value at c.plan_head-plan.ensures.value) stands.head stands.at in
    on_err _ _ (breaks_of _ _ _ c.read_head.new.bytes.items c.in-Whole.head _ stands plan c.in_ok-read_head.ensures.few c.in_ok-read_head.ensures.takes c.in_err-asked.ensures.breaks)

pub returns-clause-takes : goal.returns-clause-takes
returns-clause-takes g c =
    let stands = rw c.in-Whole.is at c.in_ok-read_head.ensures.head in
    let plan = (rw c.deref-3.ensures.value at c.plan_head-plan.ensures.value) stands.head stands.at in
    let is_head = (rw c.deref.ensures.value at c.is_head-is_head.ensures) stands.head stands.at in
    let why = (rw c.deref-2.ensures.value at c.asks_why-asks_why.ensures) stands.head stands.at in
    let close = rw c.in-Whole.is at c.in_ok-read_head.ensures.close in
    takes_of _ _ _ c.read_head.new.bytes.items _ c.in-Whole.head _ _ _ _ stands plan is_head why c.in_ok-read_head.ensures.few close c.in_ok-read_head.ensures.takes
    c.in_ok-asked.ensures.grows c.in_ok-asked.ensures.few c.in_ok-asked.ensures.asks

pub returns-in-Refused-clause-takes : goal.returns-in-Refused-clause-takes
returns-in-Refused-clause-takes g c =
    rw c.refuse.ensures (takes_refused _ _ c.read_head.new.bytes.items c.in_ok-read_head.ensures.takes c.in_ok-read_head.ensures.few (rw c.in-Refused.is at c.in_ok-read_head.ensures.head))

pub returns-in-Empty-clause-takes : goal.returns-in-Empty-clause-takes
returns-in-Empty-clause-takes g c =
    let finds = rw c.in-Empty.is at c.in_ok-read_head.ensures.head in
    takes_nothing _ _ c.read_head.new.bytes.items c.in_ok-read_head.ensures.takes finds.0 finds.1
