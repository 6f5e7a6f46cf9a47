use Rattle.moo_dump.{proofs.Words.{flat_map, petitions_left, petition_line, petitions_text}, proofs.Writing.{HasWritten}}
use Rattle.moo_dump.proofs.dumping.put_petitions.Given as goal

-- the lines of the petitions that are left are what is not written yet
abbrev pub invariant-loop-id : goal.invariant-loop-id
invariant-loop-id g l =
    let left = petitions_left l.id-iterator.last (g.R.Rows.held l.id-iterator.rows.now).maps in
    HasWritten (g.W.Write.contents l.fn.output) (g.W.Write.contents l.output) (flat_map petition_line left) (petitions_text (g.R.Rows.held l.rows).maps)
