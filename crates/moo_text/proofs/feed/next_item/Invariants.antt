use Rattle.moo_text.proofs.Shared.{◌≤◌, between, lines_side, lines_room, ReadsAlong}
use Rattle.moo_text.proofs.feed.next_item.Given as goal

abbrev pub invariant-loop-line : goal.invariant-loop-line
invariant-loop-line g l = record {
  along : ReadsAlong between between (lines_side g.R.Read.remaining l.fn.lines) (lines_side g.R.Read.remaining l.lines);
  falls : lines_room l.lines ≤ lines_room l.fn.lines;
}

abbrev pub decreases-loop-line : goal.decreases-loop-line
decreases-loop-line g l = lines_room l.lines
