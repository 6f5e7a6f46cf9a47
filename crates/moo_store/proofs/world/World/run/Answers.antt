use Rattle.moo_store.{proofs.Words.{◌≡◌, ◌+◌, inr, vec_len, subst, arith, true, false, World, IsGood}, proofs.Verdicts.{when_ok}, proofs.ListRuns.{reached_first, reached_next, reached_last, reached_fault, shut_first, no_room_first, fails_since, still_at_fault}}
use Rattle.moo_store.proofs.world.World.run.Goals as goal

-- before the first batch

pub returns-then-self-clause-moves : goal.returns-then-self-clause-moves
returns-then-self-clause-moves g c = shut_first g.S.Store c.args.self.now c.args.batches.now c.args.replies.now.items (subst (λ (w : World _). w.failed ≡ true) c.self.view_is c.if-self.true)

-- no room for the replies
pub returns-then-is_err-clause-moves : goal.returns-then-is_err-clause-moves
returns-then-is_err-clause-moves g c =
    no_room_first g.S.Store c.args.self.now c.args.batches.now c.args.replies.now.items c.reserve.new.self.items c.reserve.ensures.items (subst (λ (w : World _). w.failed ≡ false) c.self.view_is c.if-self.false)

-- one batch after another

pub loop-batch-init : goal.loop-batch-init
loop-batch-init g c = record {
  reached = reached_first g.S.Store c.args.self.now c.args.batches.now c.args.replies.now.items c.reserve.new.self.items c.reserve.ensures.items;
  room = let enough = when_ok c.reserve.result c.if-is_err.ensures.value c.reserve.ensures.ok in omega (arith, enough, c.reserve.ensures.len);
}

pub loop-batch-preserved : goal.loop-batch-preserved
loop-batch-preserved g c =
    let longer = rw c.unwrap.ensures at c.push.ensures.items in
    record {
      reached = reached_next c.in-Ok.reply c.loop-batch-test.true c.batch-item.is c.loop-batch.invariant.reached longer c.in-Ok.ensures.moves c.in-Ok.ensures.still c.in-Ok.ensures.kept;
      room = let longer : vec_len c.push.new.self ≡ vec_len c.loop-batch.replies + 1 = rw c.unwrap.ensures at c.push.ensures.len in omega (arith, longer, c.loop-batch.invariant.room, c.push.ensures.capacity, c.loop-batch-test.true);
    }

-- a batch met a fault

pub returns-in-Err-clause-moves : goal.returns-in-Err-clause-moves
returns-in-Err-clause-moves g c = reached_fault c.loop-batch.invariant.reached c.run_one.new.self c.loop-batch-test.true c.batch-item.is c.in-Err.fault c.in-Err.ensures.moves c.in-Err.ensures.fault

pub returns-in-Err-clause-still : goal.returns-in-Err-clause-still
returns-in-Err-clause-still g c =
    let good = subst (λ (w : World _). w.failed ≡ false → IsGood w.rows.maps) c.self.view_is c.self.invariant.1 in
    still_at_fault c.loop-batch.invariant.reached c.run_one.new.self c.loop-batch-test.true c.batch-item.is c.in-Err.fault good c.in-Err.ensures.moves c.in-Err.ensures.fault

pub returns-in-Err-clause-fault : goal.returns-in-Err-clause-fault
returns-in-Err-clause-fault g c = inr (fails_since c.loop-batch.invariant.reached c.run_one.new.self c.loop-batch-test.true c.batch-item.is c.in-Err.fault c.in-Err.ensures.moves c.in-Err.ensures.fault)

-- each batch has a reply

pub returns-clause-moves : goal.returns-clause-moves
returns-clause-moves g c =
    reached_last c.loop-batch.invariant.reached (subst (λ (w : World _). w.failed ≡ false) c.self.view_is c.if-self.false) (omega (arith, c.loop-batch-test.false, c.loop-batch.auto.batch-index-end))
