use Rattle.moo_load.proofs.Words.{◌+◌, ◌≤◌, ◌-◌, length}
use Rattle.moo_load.proofs.input.read_text.Given as goal
use Rattle.std.specs.Io.KnownBytes.{Consumes}
use Rattle.moo_text.specs.declared.lines.TheConstants.{LONGEST_TEXT}

abbrev pub invariant-loop-piece : goal.invariant-loop-piece
invariant-loop-piece g l = record {
  short : length l.text.items ≤ (LONGEST_TEXT + 1);
  given : Consumes (g.R.Read.remaining l.fn.reader) (g.R.Read.remaining l.reader) l.text.items;
}

abbrev pub decreases-loop-piece : goal.decreases-loop-piece
decreases-loop-piece g l = (LONGEST_TEXT + 1) - length l.text.items
