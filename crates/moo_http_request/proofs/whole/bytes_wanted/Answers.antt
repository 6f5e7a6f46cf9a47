use Rattle.moo_http_request.{proofs.Words.{subst, sym, refl, ◌+◌, rules}, specs.Whole.{IsWholeFrom}, proofs.HeadLemmas.{lacks-long}, proofs.WholeLemmas.{ends_after_body, ends_here}}
use Rattle.moo_http_request.proofs.whole.bytes_wanted.Goals as goal
use Rattle.moo_http_request.specs.declared.head.TheConstants.{MAX_HEAD}

pub returns-in-Some-Whole-clause-shows : goal.returns-in-Some-Whole-clause-shows
returns-in-Some-Whole-clause-shows c =
    let found = c.in-Some-Whole.head in
    let stands = rw c.in-Some-Whole.field-0-is at c.in-Some-Whole.ensures.found in
    let plan = c.plan_head-plan.ensures.value stands.head stands.at in
    subst (λ n. IsWholeFrom c.args.bytes.now (found.spans.len + n)) (sym c.body_size.ensures) (ends_after_body c.args.bytes.now found c.plan_head-plan.result stands plan)

pub returns-in-None-clause-shows : goal.returns-in-None-clause-shows
returns-in-None-clause-shows c =
    ends_here c.args.bytes.now MAX_HEAD (search rules) (λ more. lacks-long c.args.bytes.now more (search rules) (c.in-None.ensures.partial refl))
