use Rattle.moo_http.{proofs.Words.{[], ◌≡◌, ◌+◌, inl, inr, refl, subst, arith, rules}, proofs.Going.{moves_none}, proofs.Turns.{CountsOne, passed_on}, proofs.listen.serve_each.Goals.{then-serve_next, else-serve_next}}
use Rattle.moo_http.proofs.listen.serve_each.Goals as goal

pub loop-turn-init : goal.loop-turn-init
loop-turn-init g c = record {
  sum = refl;
  moves = moves_none (λ from at. ([], refl, refl, (refl, refl)));
}

-- no more were counted than had their turn
pub settle_one-more-requires : goal.settle_one-more-requires
settle_one-more-requires g c =
    let now = c.if-serve_next.served in
    let sum : now.answered + now.failed ≡ c.loop-turn.turn + 1 = elim c.if-serve_next.branch [
      | then-serve_next w ↦ rw w.served-is (omega (arith, c.loop-turn.invariant.sum))
      | else-serve_next w ↦ rw w.served-is (omega (arith, c.loop-turn.invariant.sum))
    ] in
    omega (arith, sum)

pub loop-turn-preserved : goal.loop-turn-preserved
loop-turn-preserved g c =
    let was = c.loop-turn.served in
    let now = c.if-serve_next.served in
    let settled = c.settle_one-more.new in
    let counts : CountsOne c.serve_next.result was.answered was.failed now.answered now.failed = elim c.if-serve_next.branch [
      | then-serve_next w ↦ rw w.served-is (inl (w.if-serve_next.true, refl, refl))
      | else-serve_next w ↦ rw w.served-is (inr (w.if-serve_next.false, refl, refl))
    ] in
    passed_on g.A.Arrivals g.A.Reader.Read g.A.Reader.Incoming.fails g.A.Writer.Write g.S.Store c.args.world.now c.loop-turn.world c.serve_next.new.world
    c.args.arrivals.now c.loop-turn.arrivals c.serve_next.new.arrivals settled.arrivals c.serve_next.result
    was.answered was.failed now.answered now.failed settled.served.answered settled.served.failed c.loop-turn.turn
    c.loop-turn.invariant c.serve_next.ensures.turn counts c.settle_one-more.ensures.tells

pub returns-clause-count : goal.returns-clause-count
returns-clause-count g c =
    let all : c.loop-turn.turn ≡ c.args.count = search rules in
    subst (λ n. c.loop-turn.served.answered + c.loop-turn.served.failed ≡ n) all c.loop-turn.invariant.sum
