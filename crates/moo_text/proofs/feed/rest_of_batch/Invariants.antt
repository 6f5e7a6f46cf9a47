use Rattle.moo_text.proofs.Shared.{[], ◌≤◌, ◌+◌, length, within, lines_side, lines_room, ReadsAlong}
use Rattle.moo_text.proofs.feed.rest_of_batch.Given as goal
use Rattle.moo_world.specs.declared.call.TheConstants.{MOST_CALLS}

abbrev pub invariant-loop-calls : goal.invariant-loop-calls
invariant-loop-calls g l = record {
  few : length l.calls.items ≤ MOST_CALLS;
  along : ReadsAlong (within l.header [] 1) (within l.header l.calls.items l.number) (lines_side g.R.Read.remaining l.fn.lines) (lines_side g.R.Read.remaining l.lines);
  some : 1 ≤ l.number;
  falls : l.number + lines_room l.lines ≤ 1 + lines_room l.fn.lines;
}

abbrev pub decreases-loop-calls : goal.decreases-loop-calls
decreases-loop-calls g l = lines_room l.lines
