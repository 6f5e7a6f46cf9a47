use Rattle.moo_tables.{proofs.Words.{AllByRecursion, all_has, refl, sym, subst, take_all, true≢false, ◌∙◌}, specs.Ours.{HasNoRules}}
use Rattle.moo_tables.proofs.ours.have_no_rules.Goals as goal
use Rattle.sqlite_rules.proofs.ListLemmas.{all_more, has_at}

pub loop-table-preserved : goal.loop-table-preserved
loop-table-preserved c = all_more HasNoRules c.args.tables.now c.loop-table.table-index c.table-item.result c.loop-table-test.true c.table-item.is c.loop-table.invariant (c.in_ok-plain.ensures.0 c.if-not-plain.false)

pub returns : goal.returns
returns c = (λ _. subst (AllByRecursion HasNoRules) (take_all c.loop-table.table-index c.args.tables.now c.loop-table-test.false) c.loop-table.invariant, λ _. refl)

pub returns-then-not-plain : goal.returns-then-not-plain
returns-then-not-plain c =
    let one = has_at c.args.tables.now c.loop-table.table-index c.table-item.result c.loop-table-test.true c.table-item.is in
    (λ no. absurd (true≢false (sym no)), λ all. sym c.if-not-plain.true ∙ c.in_ok-plain.ensures.1 (all_has HasNoRules c.args.tables.now c.table-item.result all one))
