use Rattle.moo_http.{proofs.Words.{refl, suc, inl, arith}, proofs.Turns.{settles_all_sum}}
use Rattle.moo_http.proofs.listen.settle_rest.Goals as goal

pub loop-init : goal.loop-init
loop-init g c = record { asked = 0; settled = (refl, refl, refl); left = omega arith }

-- asking changes no sum
pub settle_one-requires : goal.settle_one-requires
settle_one-requires g c =
    let it = c.loop.invariant in
    omega (arith, c.requires, settles_all_sum g.A.Arrivals.loses it.asked c.args.arrivals.now c.loop.arrivals c.args.served.now.answered c.args.served.now.failed c.loop.served.answered c.loop.served.failed it.settled)

pub loop-preserved : goal.loop-preserved
loop-preserved g c =
    let it = c.loop.invariant in
    record {
      asked = suc it.asked;
      settled = (c.loop.arrivals, c.loop.served.answered, c.loop.served.failed, it.settled, c.settle_one.ensures.tells);
      left = omega (arith, it.left, c.settle_one.ensures.more c.if-not-settle_one.false);
    }

pub returns-clause-tells : goal.returns-clause-tells
returns-clause-tells g c = let it = c.loop.invariant in (it.asked, it.settled)

pub returns-clause-none : goal.returns-clause-none
returns-clause-none g c = inl (omega (arith, c.loop.invariant.left, c.loop-test.false))

pub returns-then-not-settle_one-clause-tells : goal.returns-then-not-settle_one-clause-tells
returns-then-not-settle_one-clause-tells g c =
    let it = c.loop.invariant in
    (suc it.asked, (c.loop.arrivals, c.loop.served.answered, c.loop.served.failed, it.settled, c.settle_one.ensures.tells))
