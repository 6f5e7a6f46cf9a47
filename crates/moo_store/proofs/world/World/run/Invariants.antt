use Rattle.moo_store.{proofs.Words.{◌≤◌, ◌+◌, ◌-◌, length, vec_len, vec_capacity}, proofs.ListRuns.{Reached}}
use Rattle.moo_store.proofs.world.World.run.Given as goal

abbrev pub invariant-loop-batch : goal.invariant-loop-batch
invariant-loop-batch g l = record {
  reached : Reached g.S.Store l.fn.self l.self l.batches l.batch-index l.fn.replies.items l.replies.items;
  room : vec_len l.replies + (length l.batches - l.batch-index) ≤ vec_capacity l.replies;
}
