use Rattle.moo_store.{proofs.Words.{◌≡◌, false, take, state_of_world}, specs.Answered.{answers_alone}, specs.Seeing.{HasSeenEach}}
use Rattle.moo_batch.specs.Ticks.{NoneComeBack}
use Rattle.moo_store.proofs.each.ask_all.Given as goal

abbrev pub invariant-loop-batch : goal.invariant-loop-batch
invariant-loop-batch g l = record {
  replies : l.world.failed ≡ false → l.replies.items ≡ answers_alone (state_of_world l.world) (take l.batch-index l.batches);
  seen : HasSeenEach g.N.Witness.sees l.world.rows.maps (take l.batch-index l.batches) l.replies.items (g.N.Witness.kept l.fn.witness) (g.N.Witness.kept l.witness);
  ticks : NoneComeBack (g.N.Witness.left l.fn.witness) (g.N.Witness.left l.witness);
}
