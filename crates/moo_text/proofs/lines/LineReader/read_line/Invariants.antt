use Rattle.moo_text.{specs.Side.{lines_side}, proofs.SoFar.{SoFar}}
use Rattle.moo_text.proofs.lines.LineReader.read_line.Given as goal

abbrev pub invariant-loop-at : goal.invariant-loop-at
invariant-loop-at g l = SoFar (lines_side g.R.Read.remaining l.fn.self) (lines_side g.R.Read.remaining l.self) l.line.items

abbrev pub decreases-loop-at : goal.decreases-loop-at
decreases-loop-at g l = l.self.room
