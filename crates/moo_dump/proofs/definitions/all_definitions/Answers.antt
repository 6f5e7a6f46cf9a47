use Rattle.moo_dump.{proofs.Words.{arith, ap, ◌∙◌, ids_listed}, specs.Lines.{ids_defined_by}, proofs.FlatMaps.{one_left}, proofs.Listing.{defined_more}}
use Rattle.moo_dump.proofs.definitions.all_definitions.Goals as goal
use Rattle.moo_rows.specs.Walk.{props_left}

pub loop-id-preserved : goal.loop-id-preserved
loop-id-preserved g c d =
    let left = props_left c.next.new.self.last (g.R.Rows.held c.next.new.self.rows.now).maps in
    one_left (ids_listed c.add_definition.new.definitions d) (ids_listed c.loop-id.definitions d) _ (ids_defined_by d left) _ _ (c.in_ok-add_definition.ensures d) (ap (ids_defined_by d) c.in-Some.ensures.steps ∙ defined_more d c.in-Some.id c.in-Some.row.now left) (c.loop-id.invariant d)
