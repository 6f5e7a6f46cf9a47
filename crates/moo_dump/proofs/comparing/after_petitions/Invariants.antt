use Rattle.moo_dump.{proofs.Words.{◌≤◌, length, take, flat_map, petitions_left, petition_line, petitions_text}, proofs.Compared.{IsComparedTo}}
use Rattle.moo_dump.proofs.comparing.after_petitions.Given as goal

-- the lines of the petitions that are left are what is not compared yet
abbrev pub invariant-loop-id : goal.invariant-loop-id
invariant-loop-id g l =
    let left = petitions_left l.id-iterator.last (g.R.Rows.held l.id-iterator.rows.now).maps in
    record {
      within : l.at ≤ length l.text;
      compared : IsComparedTo (take l.start l.text) (petitions_text (g.R.Rows.held l.rows).maps) (take l.at l.text) (flat_map petition_line left);
    }
