use Rattle.moo_cells.{proofs.Words.{List, sym, subst, entries, Row, ShowEach}, proofs.FillLemmas.{fills_shown}}
use Rattle.moo_cells.proofs.showing_in_turn.show_table.Goals as goal

pub returns-clause-shown : goal.returns-clause-shown
returns-clause-shown g c keep is =
    let m = c.args.rows.now.maps in
    let map = g.R.KeyedRow.map_of m in
    let each = subst (λ (rows : List Row). ShowEach (g.R.ReadRow.reads c.args.version) rows (entries map)) c.deref.ensures.value (c.are_shown.ensures is) in
    record {
      cells = c.in_ok-cells.cells.items;
      listed = c.in_ok-cells.ensures.listed;
      fills = fills_shown keep c.in_ok-cells.cells.items map each;
      kept = sym (g.met.R.KeyedRow.own_map m);
    }
