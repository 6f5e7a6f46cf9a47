use Rattle.moo_text.proofs.Shared.{◌≤◌, skipping, lines_side, lines_room, ReadsAlong}
use Rattle.moo_text.proofs.feed.skip_batch.Given as goal

abbrev pub invariant-loop-line : goal.invariant-loop-line
invariant-loop-line g l = record {
  along : ReadsAlong (skipping l.number) (skipping l.number) (lines_side g.R.Read.remaining l.fn.lines) (lines_side g.R.Read.remaining l.lines);
  falls : lines_room l.lines ≤ lines_room l.fn.lines;
}

abbrev pub decreases-loop-line : goal.decreases-loop-line
decreases-loop-line g l = lines_room l.lines
