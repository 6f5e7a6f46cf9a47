use Rattle.std.proofs.Common.{sym, subst, arith}
use Rattle.moo_desk.proofs.Firsts.{first_found, lacks_all, lacks_then}
use Rattle.moo_desk.proofs.first.first_place.Goals as goal

pub returns-then-holds-clause-first : goal.returns-then-holds-clause-first
returns-then-holds-clause-first g c =
    let asks = g.Q.Question.asks c.args.question.now in
    first_found asks c.loop-place.place c.args.items.now c.index-items-place.result (omega (arith, c.loop-place-test.true)) c.loop-place.invariant (subst asks c.index-items-place.is (c.holds.ensures.yes c.if-holds.true))

pub loop-place-preserved : goal.loop-place-preserved
loop-place-preserved g c =
    let asks = g.Q.Question.asks c.args.question.now in
    lacks_then asks c.loop-place.place c.args.items.now c.index-items-place.result (omega (arith, c.loop-place-test.true)) c.loop-place.invariant (λ is. c.holds.ensures.no c.if-holds.false (subst asks (sym c.index-items-place.is) is))

pub returns-clause-first : goal.returns-clause-first
returns-clause-first g c =
    lacks_all (g.Q.Question.asks c.args.question.now) c.loop-place.place c.args.items.now (omega (arith, c.loop-place-test.false)) c.loop-place.invariant
